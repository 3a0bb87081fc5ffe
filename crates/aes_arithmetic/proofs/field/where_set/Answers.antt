-- A bit is 0 or 1.
use Prim.Native.Nat.{◌*◌, ◌≤◌}
use native.Mathlib.Nat.{mul-le-mul_right}
use native.Mathlib.Omega.{arith}
use Rattle.aes_arithmetic.proofs.field.where_set.Goals as goal

pub overflow_mul-result : goal.overflow_mul-result
overflow_mul-result c =
    let m : c.args.bit * c.args.b ≤ 1 * c.args.b = mul-le-mul_right c.args.b c.requires in
    omega arith
