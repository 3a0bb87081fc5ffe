-- Neither 16 nor 32.
use mathlib.Core.Path.{◌≡◌, refl}
use mathlib.Core.Bool.{Bool, true, false, not, ◌&&◌, ◌||◌}
use lib.Dec.{eqb}
use lib.ListN.{length}
use Rattle.fips197.specs.Aes.{not_key}
use Rattle.cipher.proofs.not_key.Goals as goal

neither : (a b : Bool) → (not a && not b) ≡ not (a || b)
neither true b = refl
neither false b = refl

pub returns : goal.returns
unfolding not_key
returns c = let n = length c.args.key.now in neither (eqb n 16) (eqb n 32)
