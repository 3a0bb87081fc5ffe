-- Four bytes at an offset.
use Rattle.std.proofs.Common.{◌∙◌}
use Rattle.blocks.proofs.BigEndian.{num-from_32}
use Rattle.fips180.proofs.Words.{word_read}
use Rattle.fips180.proofs.compress.word_at.Goals as goal

pub returns : goal.returns
returns c = num-from_32 _ _ _ _ _ c.from_be_bytes.ensures ∙ word_read c.args.s.now c.args.at c.args.i c.requires
