-- The bytes of each word.
use mathlib.Core.Path.{◌∙◌}
use Rattle.blocks.proofs.BigEndian.{words_to}
use Rattle.blocks.proofs.words.ArrayU816FromWords.from.Goals as goal

pub returns : goal.returns
returns c = words_to c.args.w _ _ (c.copy_from_slice.ensures.after ∙ c.to_be_bytes.ensures) (c.copy_from_slice-2.ensures.after ∙ c.to_be_bytes-2.ensures)
