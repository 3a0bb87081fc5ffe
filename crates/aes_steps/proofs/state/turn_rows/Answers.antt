use borrow.Author.Rules.{rules}
use mathlib.Core.Path.{refl}
use Prim.Native.Nat.{ℕ, ◌≤◌, ◌*◌, ◌%◌}
use native.Mathlib.Nat.{mul-le-mul_right}
use native.Mathlib.Omega.{arith}
use Rattle.blocks.proofs.Tab.{fill_none, fill_more, fill_all}
use Rattle.aes_steps.proofs.state.turn_rows.Invariants.{turned}
use Rattle.aes_steps.proofs.state.turn_rows.Goals as goal

few : (i places : ℕ) → places ≤ 12 → i % 4 * places ≤ 36
few i places h =
    let l : i % 4 ≤ 3 = omega arith in
    let m : i % 4 * places ≤ 3 * places = mul-le-mul_right places l in
    omega arith

pub loop-i-init : goal.loop-i-init
loop-i-init c = (search rules, fill_none 16 _)

pub overflow_mul-r : goal.overflow_mul-r
overflow_mul-r c = omega (arith, few c.loop-i.i c.args.places c.requires)

pub overflow_add-r : goal.overflow_add-r
overflow_add-r c = omega (arith, few c.loop-i.i c.args.places c.requires)

pub loop-i-preserved : goal.loop-i-preserved
loop-i-preserved c =
    let a = c.args in
    (search rules, fill_more 16 (turned a.places a.s) c.loop-i.i (search rules) c.loop-i.invariant.1 refl)

pub returns : goal.returns
returns c =
    let a = c.args in
    fill_all 16 (turned a.places a.s) c.loop-i.i (search rules) (search rules) c.loop-i.invariant.1
