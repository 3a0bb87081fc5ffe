-- What the engine gives is a schedule.
use Rattle.cipher.proofs.Keys.{expands}
use Rattle.cipher.proofs.by.expand.Goals as goal

pub returns-in-Arithmetic : goal.returns-in-Arithmetic
returns-in-Arithmetic g c = expands c.args.key.now _ c.requires c.expand.ensures

pub returns-in-Tables : goal.returns-in-Tables
returns-in-Tables g c = expands c.args.key.now _ c.requires c.expand-in-Tables.ensures
