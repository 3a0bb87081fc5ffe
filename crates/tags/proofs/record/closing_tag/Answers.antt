-- The start mask, jumped by the count, closes the record.
use mathlib.Core.Path.{ap, ◌∙◌}
use mathlib.Core.List.{List}
use Prim.Native.Nat.{ℕ}
use Rattle.blocks.specs.Words.{bytes_of}
use Rattle.gf128.specs.Gf128.{jump}
use Rattle.mode.specs.Mode.{finish_named}
use Rattle.mode.specs.Aes.{aes}
use Rattle.mode.specs.Calls.{closing_tag, held_tag}
use Rattle.tags.proofs.record.closing_tag.Goals as goal

pub tag-requires : goal.tag-requires
tag-requires c = c.prepare-p.ensures.expanded

pub returns : goal.returns
unfolding closing_tag
returns c =
    let a = c.args in
    c.tag.ensures
    ∙ ap (λ (mask : List ℕ). held_tag ((finish_named a.finish).tag_from aes a.key.now (bytes_of a.run.preauthenticator) mask)) (c.jump-mask.ensures ∙ ap (jump a.run.count) c.prepare-p.ensures.started)
