-- Joined on where there is a record so far; else nothing is joined, and the power stays.
use mathlib.Core.Path.{sym, ap, ◌∙◌}
use Rattle.std.specs.Prelude.{Result}
use Rattle.mode.specs.declared.RunRecord.{RunRecord}
use Rattle.mode.specs.declared.refusal.Refusal.{Refusal}
use Rattle.record_list.specs.Onto.{kept, onto_answer}
use Rattle.record_list.proofs.onto.Goals as goal

pub returns-in-Ok : goal.returns-in-Ok
unfolding onto_answer
returns-in-Ok c =
    let a = c.args in
    c.join_keeping.ensures ∙ sym (ap (λ (x : Result RunRecord Refusal). onto_answer x a.so_far.last a.next) c.in-Ok.is)

pub returns-in-Err : goal.returns-in-Err
unfolding onto_answer
returns-in-Err c =
    let a = c.args in
    ap (λ (x : Result RunRecord Refusal). kept x a.so_far.last) c.unjoined.ensures
    ∙ sym (ap (λ (x : Result RunRecord Refusal). onto_answer x a.so_far.last a.next) c.in-Err.is)
