-- The whole blocks of the text, and the last ones.
use Rattle.std.proofs.Common.{◌∙◌}
use Rattle.fips180.specs.Sha1.{initial}
use Rattle.fips180.proofs.Blocks.{digest_done}
use Rattle.fips180.proofs.digest.Goals as goal

pub returns : goal.returns
unfolding initial
returns c =
    let text = c.args.text.now in
    c.digest_bytes.ensures ∙ digest_done text _ _ _ c.blocks-h.ensures c.last_blocks-last.ensures c.blocks-r.ensures
