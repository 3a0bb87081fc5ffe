-- What the engine gives, under the key in front of its schedule.
use Rattle.cipher.proofs.ByKey.{middletexts_are}
use Rattle.cipher.proofs.by.middletexts.Goals as goal

pub returns-in-Arithmetic : goal.returns-in-Arithmetic
returns-in-Arithmetic g c = middletexts_are _ c.requires.expanded _ c.new.ensures c.args.n _ _ c.middletexts.ensures

pub returns-in-Tables : goal.returns-in-Tables
returns-in-Tables g c = middletexts_are _ c.requires.expanded _ c.new-in-Tables.ensures c.args.n _ _ c.middletexts-in-Tables.ensures
