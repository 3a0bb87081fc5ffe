-- What the engine gives, under the key in front of its schedule.
use Rattle.cipher.proofs.ByKey.{deciphered}
use Rattle.cipher.proofs.by.decrypt.Goals as goal

pub returns-in-Arithmetic : goal.returns-in-Arithmetic
returns-in-Arithmetic g c = deciphered _ c.requires.expanded _ c.new.ensures c.args.n _ _ _ c.decrypt.ensures.middle c.decrypt.ensures.group

pub returns-in-Tables : goal.returns-in-Tables
returns-in-Tables g c = deciphered _ c.requires.expanded _ c.new-in-Tables.ensures c.args.n _ _ _ c.decrypt-in-Tables.ensures.middle c.decrypt-in-Tables.ensures.group
