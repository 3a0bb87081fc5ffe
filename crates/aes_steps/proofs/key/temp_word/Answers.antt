-- By whether the word's number is a multiple of four.
use Prim.Native.Nat.{◌-◌, ◌%◌}
use native.Mathlib.Omega.{arith}
use Rattle.aes_steps.proofs.Words.{temp_subbed, temp-kept}
use Rattle.aes_steps.proofs.key.temp_word.Goals as goal

pub returns-then-i-eq0 : goal.returns-then-i-eq0
returns-then-i-eq0 g c =
    let a = c.args in
    temp_subbed a.nk a.i c.requires a.t _ _ c.if-i-eq0.true c.sub_word-s.ensures c.after_sub.ensures

pub returns-else-i-eq0 : goal.returns-else-i-eq0
returns-else-i-eq0 g c =
    let a = c.args in
    temp-kept a.nk a.i c.requires a.t (a.i % 4 - 1) (omega arith)
