-- Loaded, taken through the cipher, put out, taken up.
use Rattle.runs.proofs.Groups.{group_done}
use Rattle.runs.proofs.run.step.Goals as goal

pub returns : goal.returns
returns c = group_done _ _ _ _ _ _ _ _ _ _ _ c.load-mask.ensures c.through.ensures _ _ _ _ c.put.ensures c.take_up-preauthenticator.ensures
