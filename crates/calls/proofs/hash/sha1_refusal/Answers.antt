-- Row by row.
use borrow.Author.Tests.{le-ltb, lt-ltb}
use mathlib.Core.Path.{◌∙◌}
use lib.ListN.{length}
use Rattle.mode.specs.Table.{unhashable}
use Rattle.mode.proofs.Rows.{row_holds, row_passes, no_row}
use Rattle.fips180.specs.Sha1.{longest_text}
use Rattle.mode.specs.declared.refusal.Refusal.TheVariants.{Length, OutputTooShort}
use Rattle.mode.proofs.Answers.{refuses_by, lets_pass}
use Rattle.calls.proofs.hash.sha1_refusal.Goals as goal

pub returns-then-text-gt-LONGEST_TEXT : goal.returns-then-text-gt-LONGEST_TEXT
unfolding unhashable
returns-then-text-gt-LONGEST_TEXT c = let a = c.args in refuses_by Length (row_holds 3 _ _ (lt-ltb longest_text (length a.text.now) c.if-text-gt-LONGEST_TEXT.true))

pub returns-then-room-lt20 : goal.returns-then-room-lt20
unfolding unhashable
returns-then-room-lt20 c =
    let a = c.args in
    refuses_by OutputTooShort (row_passes 3 _ _ (le-ltb longest_text (length a.text.now) c.if-text-gt-LONGEST_TEXT.false) ∙ row_holds 5 _ _ (lt-ltb a.room 20 c.if-room-lt20.true))

pub returns : goal.returns
unfolding unhashable
returns c =
    let a = c.args in
    lets_pass (row_passes 3 _ _ (le-ltb longest_text (length a.text.now) c.if-text-gt-LONGEST_TEXT.false) ∙ row_passes 5 _ _ (le-ltb a.room 20 c.if-room-lt20.false) ∙ no_row)
