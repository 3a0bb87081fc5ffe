-- By cases.
use mathlib.Core.Path.{sym, ap}
use Rattle.runs.specs.Task.{writes as writes_of}
use Rattle.runs.proofs.run.writes.Goals as goal

pub returns-in-Seal : goal.returns-in-Seal
unfolding writes_of
returns-in-Seal c = sym (ap writes_of c.in-Seal.is)

pub returns-in-Open : goal.returns-in-Open
unfolding writes_of
returns-in-Open c = sym (ap writes_of c.in-Open.is)

pub returns-in-Check : goal.returns-in-Check
unfolding writes_of
returns-in-Check c = sym (ap writes_of c.in-Check.is)
