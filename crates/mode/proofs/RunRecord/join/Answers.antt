-- The join with nothing kept.
use mathlib.Core.Path.{sym, ap, subst, ◌∙◌}
use Rattle.mode.specs.declared.KeptAnswer.{KeptAnswer}
use Rattle.mode.specs.Powers.{Keeps}
use Rattle.mode.proofs.Powers.{keeps_none, keeping_answer}
use Rattle.mode.proofs.RunRecord.join.Goals as goal

pub join_keeping-requires : goal.join_keeping-requires
join_keeping-requires c = subst Keeps (sym c.none.ensures) keeps_none

pub returns : goal.returns
returns c =
    let a = c.args in
    ap (λ (j : KeptAnswer). j.answer) c.join_keeping.ensures ∙ keeping_answer a.self a.right c.none.result
