-- Row by row.
use mathlib.Core.Path.{sym, ◌∙◌}
use native.Mathlib.Omega.{arith}
use Rattle.mode.proofs.Runs.{within}
use Rattle.mode.proofs.Rows.{row_holds, row_passes, no_row, is_beyond, not_at_start, has_no_block, is_whole}
use Rattle.mode.specs.declared.refusal.Refusal.TheVariants.{BeyondLimit, NotWhole, ZeroMask}
use Rattle.mode.proofs.Answers.{refuses_by, lets_pass}
use Rattle.tags.proofs.record.record_refusal.Goals as goal

pub returns-then-run-gt-LIMIT : goal.returns-then-run-gt-LIMIT
returns-then-run-gt-LIMIT c = let r = c.args.run in refuses_by BeyondLimit (row_holds 4 _ _ (is_beyond r.first r.count (omega arith)))

pub returns-then-run-ne0 : goal.returns-then-run-ne0
returns-then-run-ne0 c = let r = c.args.run in refuses_by NotWhole (row_passes 4 _ _ (within r.first r.count (omega arith)) ∙ row_holds 9 _ _ (not_at_start r c.if-run-ne0.true))

pub returns-then-run-eq0 : goal.returns-then-run-eq0
returns-then-run-eq0 c = let r = c.args.run in refuses_by NotWhole (row_passes 4 _ _ (within r.first r.count (omega arith)) ∙ row_holds 9 _ _ (has_no_block r c.if-run-ne0.false c.if-run-eq0.true))

pub returns-then-zero_mask : goal.returns-then-zero_mask
returns-then-zero_mask c =
    let r = c.args.run in
    refuses_by ZeroMask (row_passes 4 _ _ (within r.first r.count (omega arith)) ∙ row_passes 9 _ _ (is_whole r c.if-run-ne0.false c.if-run-eq0.false) ∙ row_holds 10 _ _ (sym c.zero_mask.ensures ∙ c.if-zero_mask.true))

pub returns : goal.returns
returns c =
    let r = c.args.run in
    lets_pass (row_passes 4 _ _ (within r.first r.count (omega arith)) ∙ row_passes 9 _ _ (is_whole r c.if-run-ne0.false c.if-run-eq0.false) ∙ row_passes 10 _ _ (sym c.zero_mask.ensures ∙ c.if-zero_mask.false) ∙ no_row)
