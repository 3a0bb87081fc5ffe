-- What is given, or 0.
use Rattle.balzenoh.proofs.number.report.Goals as goal

pub returns-clause-reported : goal.returns-clause-reported
returns-clause-reported c = c.unwrap_or.ensures
