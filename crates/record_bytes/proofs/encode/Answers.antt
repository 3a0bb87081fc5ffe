-- The two numbers, one after the other, and the words behind them.
use mathlib.Core.Path.{◌∙◌}
use Rattle.record_bytes.proofs.Encoding.{number_written, encoded_there}
use Rattle.record_bytes.proofs.encode.Goals as goal

pub returns : goal.returns
returns c =
    let a = c.args in
    encoded_there a.run a.out.now c.put.new.d c.put-2.new.d c.store.new.d c.to_be_bytes.result c.to_be_bytes-2.result
    (c.to_be_bytes.ensures ∙ number_written a.run.first) (c.to_be_bytes-2.ensures ∙ number_written a.run.count) c.put.ensures c.put-2.ensures c.store.ensures
