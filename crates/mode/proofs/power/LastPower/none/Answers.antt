-- Each field is the definition's.
use mathlib.Core.Path.{refl}
use Rattle.mode.proofs.power.LastPower.none.Goals as goal

pub returns : goal.returns
returns c = refl
