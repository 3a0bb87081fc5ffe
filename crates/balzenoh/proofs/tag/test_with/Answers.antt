-- Not a record, or tested.
use mathlib.Core.Path.{ap, ◌∙◌}
use Rattle.mode.specs.Mode.{in_words, finish_named}
use Rattle.mode.specs.declared.RunRecord.{RunRecord}
use Rattle.mode.specs.Aes.{aes}
use Rattle.mode.specs.Refusals.{number_in}
use Rattle.mode.specs.Calls.{test, number}
use Rattle.mode.proofs.Demands.{demand1}
use Rattle.mode.proofs.Numbers.{number_kept}
use Rattle.balzenoh.specs.Exports.{test_bytes}
use Rattle.balzenoh.proofs.Handed.{no_record, a_record}
use Rattle.balzenoh.proofs.tag.test_with.Goals as goal

pub returns-then-run-ne24 : goal.returns-then-run-ne24
unfolding test_bytes
returns-then-run-ne24 c = let a = c.args in rw (no_record a.run.now c.if-run-ne24.true) c.number.ensures

pub returns : goal.returns
unfolding test_bytes
returns c =
    let a = c.args in
    let t = finish_named a.finish in
    rw (a_record a.run.now c.if-run-ne24.false)
    (c.number-2.ensures ∙ ap number_in c.test.ensures ∙ number_kept (λ u. u) _ (demand1.of_test t a.key.now a.iv.now c.decode.result a.tag.now)
    ∙ ap (λ (r : RunRecord). number (test in_words t aes a.key.now a.iv.now r a.tag.now)) c.decode.ensures)
