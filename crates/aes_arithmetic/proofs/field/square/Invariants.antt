-- The loop has done the bits below i.
use Prim.Native.Nat.{◌≤◌}
use Rattle.aes_arithmetic.proofs.Powers.{Squared}
use Rattle.aes_arithmetic.proofs.field.square.Given as goal

abbrev pub invariant-loop-i : goal.invariant-loop-i
invariant-loop-i l = (l.i ≤ 8) × Squared l.a l.r l.even l.i
