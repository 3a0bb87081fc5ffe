-- By what is done: the face gives it.
use Rattle.runs.proofs.Cipher.{sealed_through, opened_through, checked_through, through_as}
use Rattle.runs.proofs.run.through.Goals as goal

pub returns-in-Seal : goal.returns-in-Seal
returns-in-Seal c = through_as _ _ _ _ _ _ _ c.in-Seal.is (sealed_through _ _ _ _ _ c.encrypt.ensures)

pub returns-in-Open : goal.returns-in-Open
returns-in-Open c = through_as _ _ _ _ _ _ _ c.in-Open.is (opened_through _ _ _ _ _ c.decrypt.ensures)

pub returns-in-Check : goal.returns-in-Check
returns-in-Check c = through_as _ _ _ _ _ _ _ c.in-Check.is (checked_through _ _ _ _ _ c.middletexts.ensures c.copy.ensures)
