-- By what is kept: nothing, the power of another count, or this one.
use mathlib.Core.Path.{sym, ◌∙◌}
use Rattle.mode.proofs.Powers.{none_kept, other_kept, this_kept}
use Rattle.mode.proofs.power.LastPower.for_count.Goals as goal
use Rattle.mode.proofs.power.LastPower.for_count.Goals.{in_default-via-in-Some+else-last-count, in_default-via-in_default}

pub returns-in-Some-clause-last : goal.returns-in-Some-clause-last
returns-in-Some-clause-last c = let a = c.args in sym (this_kept a.self c.in-Some.last a.count c.in-Some.is c.if-last-count.true)

pub returns-in_default-clause-last : goal.returns-in_default-clause-last
returns-in_default-clause-last c =
    let a = c.args in
    c.work_out.ensures.last ∙ elim c.in_default.branch [
      | in_default-via-in-Some+else-last-count w ↦ sym (other_kept a.self w.in-Some.last a.count w.in-Some.is w.if-last-count.false)
      | in_default-via-in_default w ↦ sym (none_kept a.self a.count w.in_default.is)
    ]
