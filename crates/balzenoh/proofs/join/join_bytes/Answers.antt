-- Not records, or joined.
use mathlib.Core.Path.{refl}
use Rattle.balzenoh.specs.Exports.{join_list_bytes}
use Rattle.balzenoh.proofs.Handed.{no_records, some-records}
use Rattle.balzenoh.proofs.join.join_bytes.Goals as goal

pub returns-then-records-ne0 : goal.returns-then-records-ne0
unfolding join_list_bytes
returns-then-records-ne0 c = let a = c.args in rw (no_records a.records.now c.if-records-ne0.true) refl

pub returns : goal.returns
unfolding join_list_bytes
returns c = let a = c.args in rw (some-records a.records.now c.if-records-ne0.false) c.join_records.ensures.answer
