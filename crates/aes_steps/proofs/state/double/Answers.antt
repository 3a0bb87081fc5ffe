-- A byte is below 256, so that the bit that falls out is its top bit.
use mathlib.Core.Path.{◌≡◌, ap}
use Prim.Native.Nat.{ℕ, ◌*◌, ◌/◌, ◌%◌}
use native.Mathlib.Omega.{arith}
use lib.Bits.{bit_xor}
use Rattle.blocks.specs.Field.{step}
use Rattle.aes_steps.proofs.state.double.Goals as goal

pub overflow_mul-result : goal.overflow_mul-result
overflow_mul-result c = omega arith

pub returns : goal.returns
unfolding step
returns c =
    let x = c.args.x in
    let e : x / 128 ≡ x / 128 % 2 = omega arith in
    ap (λ (t : ℕ). bit_xor (x * 2 % 256) (t * 0x1b)) e
