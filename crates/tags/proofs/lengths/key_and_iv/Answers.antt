-- Row by row.
use mathlib.Core.Path.{sym, ◌∙◌}
use Rattle.mode.proofs.Runs.{is16}
use Rattle.mode.proofs.Rows.{row_holds, row_passes, no_row, isnt16}
use Rattle.mode.specs.declared.refusal.Refusal.TheVariants.{KeyLength, IvLength}
use Rattle.mode.proofs.Answers.{refuses_by, lets_pass}
use Rattle.tags.proofs.lengths.key_and_iv.Goals as goal

pub returns-then-not_key : goal.returns-then-not_key
returns-then-not_key c = refuses_by KeyLength (row_holds 1 _ _ (sym c.not_key.ensures ∙ c.if-not_key.true))

pub returns-then-iv-ne16 : goal.returns-then-iv-ne16
returns-then-iv-ne16 c =
    let a = c.args in
    refuses_by IvLength (row_passes 1 _ _ (sym c.not_key.ensures ∙ c.if-not_key.false) ∙ row_holds 2 _ _ (isnt16 a.iv.now c.if-iv-ne16.true))

pub returns : goal.returns
returns c =
    let a = c.args in
    lets_pass (row_passes 1 _ _ (sym c.not_key.ensures ∙ c.if-not_key.false) ∙ row_passes 2 _ _ (is16 a.iv.now c.if-iv-ne16.false) ∙ no_row)
