-- The loop has multiplied the first i bytes.
use mathlib.Core.Path.{◌≡◌}
use mathlib.Core.List.{List}
use Prim.Native.Nat.{ℕ, ◌≤◌}
use lib.ListN.{get_or}
use Rattle.blocks.proofs.Tab.{filled}
use Rattle.fips197.specs.Gf256.{gmul}
use Rattle.aes_arithmetic.proofs.field.products.Given as goal

abbrev pub multiplied : List ℕ → List ℕ → ℕ → ℕ
multiplied a b i = gmul (get_or a i 0) (get_or b i 0)

abbrev pub invariant-loop-i : goal.invariant-loop-i
invariant-loop-i l = (l.i ≤ 16) × (l.r ≡ filled 16 (multiplied l.a l.b) l.i)
