-- The loop has done the first i bytes.
use mathlib.Core.Path.{◌≡◌}
use mathlib.Core.List.{List}
use Prim.Native.Nat.{ℕ, ◌≤◌}
use lib.ListN.{get_or}
use Rattle.blocks.proofs.Tab.{filled}
use Rattle.fips197.specs.Sbox.{inv_affine}
use Rattle.aes_arithmetic.proofs.affine.inv_affines.Given as goal

abbrev pub done : List ℕ → ℕ → ℕ
done s i = inv_affine (get_or s i 0)

abbrev pub invariant-loop-i : goal.invariant-loop-i
invariant-loop-i l = (l.i ≤ 16) × (l.r ≡ filled 16 (done l.s) l.i)
