-- The loop has written the first i bytes of the exclusive or.
use mathlib.Core.Path.{◌≡◌}
use mathlib.Core.List.{List}
use Prim.Native.Nat.{ℕ, ◌≤◌}
use lib.Bits.{bit_xor}
use lib.ListN.{get_or}
use Rattle.blocks.proofs.Tab.{filled}
use Rattle.blocks.proofs.block.xor.Given as goal

abbrev pub sum : List ℕ → List ℕ → ℕ → ℕ
sum a b i = bit_xor (get_or a i 0) (get_or b i 0)

abbrev pub invariant-loop-i : goal.invariant-loop-i
invariant-loop-i l = (l.i ≤ 16) × (l.r ≡ filled 16 (sum l.a l.b) l.i)
