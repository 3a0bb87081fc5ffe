-- What is there, and the bits from i up times the multiple, make the product.
use Prim.Native.Nat.{◌≤◌}
use Rattle.aes_arithmetic.proofs.Powers.{Multiplied}
use Rattle.aes_arithmetic.proofs.field.product.Given as goal

abbrev pub invariant-loop-i : goal.invariant-loop-i
invariant-loop-i l = (l.i ≤ 8) × Multiplied l.a l.b l.r l.multiple l.i
