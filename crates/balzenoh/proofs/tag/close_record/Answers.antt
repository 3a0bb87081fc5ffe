-- Not a record, or closed.
use mathlib.Core.Path.{refl, ap, ◌∙◌}
use Rattle.mode.specs.Mode.{in_words, finish_named}
use Rattle.mode.specs.declared.RunRecord.{RunRecord}
use Rattle.mode.specs.Aes.{aes}
use Rattle.mode.specs.Calls.{close, tag_of_answer}
use Rattle.balzenoh.specs.Exports.{close_bytes}
use Rattle.balzenoh.proofs.Handed.{no_record, a_record}
use Rattle.balzenoh.proofs.tag.close_record.Goals as goal

pub returns-then-run-ne24 : goal.returns-then-run-ne24
unfolding close_bytes
returns-then-run-ne24 c = let a = c.args in rw (no_record a.run.now c.if-run-ne24.true) refl

pub returns : goal.returns
unfolding close_bytes
returns c = let a = c.args in rw (a_record a.run.now c.if-run-ne24.false) (c.close.ensures ∙ ap (λ (r : RunRecord). tag_of_answer (close in_words (finish_named a.finish) aes a.key.now a.iv.now r)) c.decode.ensures)
