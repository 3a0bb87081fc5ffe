-- Row by row.
use borrow.Author.Rules.{rules}
use borrow.Author.Tests.{le-ltb, lt-ltb}
use mathlib.Core.Path.{◌≡◌, sym, subst, ◌∙◌}
use mathlib.Core.Bool.{Bool, true, false}
use lib.IntN.{ℤ}
use mir.Syntax.{w32}
use mir.Val.{to_z, of_z}
use mir.ValLaws.{to_z-of_z}
use Rattle.mode.specs.Table.{too_far}
use Rattle.mode.proofs.Runs.{is16}
use Rattle.mode.proofs.Rows.{row_holds, row_passes, no_row, isnt16, outside, is_outside}
use Rattle.mode.specs.declared.refusal.Refusal.TheVariants.{Length, BeyondLimit, OutputTooShort}
use Rattle.mode.proofs.Answers.{refuses_by, lets_pass}
use Rattle.tags.proofs.jump.jump_refusal.Goals as goal

-- what the test finds, of the distance as the machine reads it, is so of the distance
tested : (d read : ℤ) (t : Bool) → read ≡ d → outside read ≡ t → too_far d ≡ t
tested d read t e h = sym (is_outside d) ∙ subst (λ (x : ℤ). outside x ≡ t) e h

pub returns-then-mask-ne16 : goal.returns-then-mask-ne16
returns-then-mask-ne16 c = let a = c.args in refuses_by Length (row_holds 3 _ _ (isnt16 a.mask.now c.if-mask-ne16.true))

pub returns-then-distance : goal.returns-then-distance
returns-then-distance c =
    let d = c.args.distance in
    let far : outside (to_z w32 (of_z w32 d)) ≡ true = search rules in
    refuses_by BeyondLimit (row_passes 3 _ _ (is16 c.args.mask.now c.if-mask-ne16.false) ∙ row_holds 4 _ _ (tested d _ true (to_z-of_z w32 d c.ranges.distance) far))

pub returns-then-room-lt16 : goal.returns-then-room-lt16
returns-then-room-lt16 c =
    let d = c.args.distance in
    let near : outside (to_z w32 (of_z w32 d)) ≡ false = search rules in
    refuses_by OutputTooShort (row_passes 3 _ _ (is16 c.args.mask.now c.if-mask-ne16.false) ∙ row_passes 4 _ _ (tested d _ false (to_z-of_z w32 d c.ranges.distance) near)
    ∙ row_holds 5 _ _ (lt-ltb c.args.room 16 c.if-room-lt16.true))

pub returns : goal.returns
returns c =
    let d = c.args.distance in
    let near : outside (to_z w32 (of_z w32 d)) ≡ false = search rules in
    lets_pass (row_passes 3 _ _ (is16 c.args.mask.now c.if-mask-ne16.false) ∙ row_passes 4 _ _ (tested d _ false (to_z-of_z w32 d c.ranges.distance) near)
    ∙ row_passes 5 _ _ (le-ltb c.args.room 16 c.if-room-lt16.false) ∙ no_row)
