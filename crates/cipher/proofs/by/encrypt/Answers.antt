-- What the engine gives, under the key in front of its schedule.
use Rattle.cipher.proofs.ByKey.{enciphered}
use Rattle.cipher.proofs.by.encrypt.Goals as goal

pub returns-in-Arithmetic : goal.returns-in-Arithmetic
returns-in-Arithmetic g c = enciphered _ c.requires.expanded _ c.new.ensures c.args.n _ _ _ c.encrypt.ensures.middle c.encrypt.ensures.group

pub returns-in-Tables : goal.returns-in-Tables
returns-in-Tables g c = enciphered _ c.requires.expanded _ c.new-in-Tables.ensures c.args.n _ _ _ c.encrypt-in-Tables.ensures.middle c.encrypt-in-Tables.ensures.group
