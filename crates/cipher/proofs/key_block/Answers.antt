-- The key is the front of its schedule.
use mathlib.Core.Path.{◌∙◌}
use Rattle.cipher.proofs.Keys.{first_16}
use Rattle.cipher.proofs.key_block.Goals as goal

pub returns : goal.returns
returns c = c.load.ensures ∙ first_16 c.args.keys.now c.requires
