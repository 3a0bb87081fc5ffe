-- Its two words.
use mathlib.Core.Path.{refl}
use Rattle.groups.specs.Group.{block_at}
use Rattle.groups.proofs.get.Goals as goal

pub returns : goal.returns
unfolding block_at
returns c = refl
