-- Not records, or joined.
use mathlib.Core.Path.{refl, ap₂, ◌∙◌}
use Rattle.mode.specs.Mode.{in_words}
use Rattle.mode.specs.declared.RunRecord.{RunRecord}
use Rattle.mode.specs.Calls.{join_two, record_of_answer}
use Rattle.balzenoh.specs.Exports.{join_bytes}
use Rattle.balzenoh.proofs.Handed.{no_record, a_record}
use Rattle.balzenoh.proofs.join.join_two.Goals as goal

pub returns-then-left-ne24 : goal.returns-then-left-ne24
unfolding join_bytes
returns-then-left-ne24 c = let a = c.args in rw (no_record a.left.now c.if-left-ne24.true) refl

pub returns-then-right-ne24 : goal.returns-then-right-ne24
unfolding join_bytes
returns-then-right-ne24 c = let a = c.args in rw (a_record a.left.now c.if-left-ne24.false, no_record a.right.now c.if-right-ne24.true) refl

pub returns : goal.returns
unfolding join_bytes
returns c = let a = c.args in rw (a_record a.left.now c.if-left-ne24.false, a_record a.right.now c.if-right-ne24.false) (c.join.ensures ∙ ap₂ (λ (l r : RunRecord). record_of_answer (join_two in_words l r)) c.decode.ensures c.decode-2.ensures)
