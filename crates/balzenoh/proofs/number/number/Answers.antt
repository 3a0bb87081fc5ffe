-- By what the answer is.
use mathlib.Core.Path.{sym, ap, ◌∙◌}
use Rattle.mode.specs.Refusals.{number_in}
use Rattle.balzenoh.proofs.number.number.Goals as goal

pub returns-in-Ok : goal.returns-in-Ok
unfolding number_in
returns-in-Ok g c = sym (ap number_in c.in-Ok.is)

pub returns-in-Err : goal.returns-in-Err
unfolding number_in
returns-in-Err g c = c.number.ensures ∙ sym (ap number_in c.in-Err.is)
