use borrow.Author.Rules.{rules}
use mathlib.Core.Path.{◌≡◌, ◌∙◌}
use Prim.Native.Nat.{◌+◌, ◌*◌, ◌%◌, ◌<◌}
use native.Mathlib.Omega.{arith}
use Rattle.blocks.proofs.Tab.{fill_none, fill_all}
use Rattle.fips197.specs.State.{mix, mix_columns}
use Rattle.aes_steps.proofs.Columns.{column_stored, column_0, column_1, column_2, column_3}
use Rattle.aes_steps.proofs.state.mix_columns.Invariants.{mixed}
use Rattle.aes_steps.proofs.state.mix_columns.Goals as goal

pub loop-i-init : goal.loop-i-init
loop-i-init c = (search rules, fill_none 16 _)

pub loop-i-preserved : goal.loop-i-preserved
loop-i-preserved c =
    let s = c.args.s in
    let i = c.loop-i.i * 4 in
    let m : i % 4 ≡ 0 = omega arith in
    let l : i < 16 = omega arith in
    let n : (c.loop-i.i + 1) * 4 ≡ i + 4 = omega arith in (
      omega arith,
      rw n (column_stored (mixed s) c.loop-i.r i _ _ _ _ m l c.loop-i.invariant.1
          (c.mix.ensures ∙ column_0 mix s i m)
          (c.mix-in-loop-i.ensures ∙ column_1 mix s i m)
          (c.mix-in-loop-i-2.ensures ∙ column_2 mix s i m)
          (c.mix-in-loop-i-3.ensures ∙ column_3 mix s i m)),
    )

pub returns : goal.returns
unfolding mix_columns
returns c = fill_all 16 (mixed c.args.s) (c.loop-i.i * 4) (omega arith) (omega arith) c.loop-i.invariant.1
