-- By the bit and the direction.
use mathlib.Core.Path.{◌≡◌, sym, ap, ◌∙◌}
use native.Mathlib.Omega.{arith}
use Rattle.blocks.specs.Words.{bytes_of}
use Rattle.gf128.specs.Gf128.{times_x, over_x, product}
use Rattle.gf128.proofs.JumpBy.{no_step, step_back, step_on}
use Rattle.gf128.proofs.next_power.Goals as goal

pub returns-then-bit-eq0 : goal.returns-then-bit-eq0
returns-then-bit-eq0 c =
    let a = c.args in
    let q = bytes_of a.q in
    c.square-s.ensures ∙ sym (no_step a.back a.bit (product q q) c.if-bit-eq0.true)

pub returns-then-back : goal.returns-then-back
returns-then-back c =
    let a = c.args in
    let q = bytes_of a.q in
    let k : a.bit ≡ 1 = omega arith in
    c.over_x.ensures ∙ ap over_x c.square-s.ensures ∙ sym (step_back a.back a.bit (product q q) c.if-back.true k)

pub returns-else-back : goal.returns-else-back
returns-else-back c =
    let a = c.args in
    let q = bytes_of a.q in
    let k : a.bit ≡ 1 = omega arith in
    c.times_x.ensures ∙ ap times_x c.square-s.ensures ∙ sym (step_on a.back a.bit (product q q) c.if-back.false k)
