-- The rows that checking has too, and then 5.
use borrow.Author.Tests.{le-ltb, lt-ltb}
use mathlib.Core.Path.{◌≡◌, ap, ◌∙◌}
use mathlib.Core.Bool.{Bool}
use mathlib.Core.List.{List, [], ◌∷◌}
use Prim.Native.Nat.{ℕ, ◌*◌, ◌≤◌, ◌<◌}
use native.Mathlib.Omega.{arith}
use lib.ListN.{length}
use Rattle.std.specs.Prelude.{Ok, Err}
use Rattle.std.proofs.lemmas.Result.{err_from_is_err_and}
use Rattle.mode.specs.Aes.{aes}
use Rattle.mode.specs.declared.refusal.Refusal.TheVariants.{OutputTooShort}
use Rattle.mode.specs.Refusals.{passed}
use Rattle.mode.proofs.Answers.{has_passed, refuses_by, lets_pass, refuses_all}
use Rattle.mode.specs.Table.{first_row, too_short}
use Rattle.mode.specs.Calls.{blocks_of_run, seal_run_rows}
use Rattle.mode.proofs.Rows.{row_holds, row_passes, no_row, front_passes}
use Rattle.mode.proofs.Passed.{head_passed, tail_passed}
use Rattle.calls.specs.Layout.{kind_of, laid_out_length}
use Rattle.calls.specs.Work.{run_rows}
use Rattle.calls.proofs.Fits.{run_aligned}
use Rattle.calls.proofs.LaidOut.{count_laid_out, shared_rows, shared_rows_lem}
use Rattle.mode.specs.declared.refusal.Refusal.TheVariants.{OutputTooShort}
use Rattle.mode.proofs.Answers.{refuses_by, lets_pass}
use Rattle.calls.proofs.run.seal_run_refusal.Goals as goal

module _ (key iv : List ℕ) (first : ℕ) (l : Bool) (bytes : List ℕ) (room : ℕ) where
  abbrev size : ℕ
  size = laid_out_length l (length bytes)

  abbrev needed : ℕ
  needed = 16 * length (blocks_of_run (kind_of l) bytes)

  abbrev front : List (ℕ × Bool)
  front = shared_rows key iv first (kind_of l) bytes

  -- the shared rows, at the length as it is laid out
  shared : (n : ℕ) → n ≡ size → passed (first_row (run_rows key iv first n)) ≡ passed (first_row front)
  shared n e = ap (λ (k : ℕ). passed (first_row (run_rows key iv first k))) e ∙ ap (λ (rows : List (ℕ × Bool)). passed (first_row rows)) (shared_rows_lem key iv first l bytes)

  module _ {u : Unit {0}} (h : Ok u ≡ passed (first_row front)) where
    none : first_row front ≡ 0
    none = has_passed (first_row front) h

    five-left : first_row (seal_run_rows aes key iv first (kind_of l) bytes room) ≡ first_row ((5, too_short room needed) ∷ [])
    five-left = front_passes front ((5, too_short room needed) ∷ []) tt none

    needed-is : needed ≡ size
    needed-is =
        let a = run_aligned l bytes (head_passed 2 _ _ (tail_passed 1 _ _ (tail_passed 0 _ _ none))) in
        omega (arith, count_laid_out l bytes, a)

    short : room < size → Err OutputTooShort ≡ passed (first_row (seal_run_rows aes key iv first (kind_of l) bytes room))
    short h = refuses_by OutputTooShort (five-left ∙ row_holds 5 _ _ (lt-ltb room needed (rw needed-is h)))

    enough : size ≤ room → Ok tt ≡ passed (first_row (seal_run_rows aes key iv first (kind_of l) bytes room))
    enough h = lets_pass (five-left ∙ row_passes 5 _ _ (le-ltb room needed (rw needed-is h)) ∙ no_row)

pub returns-in_err-run_refusal : goal.returns-in_err-run_refusal
returns-in_err-run_refusal c =
    let a = c.args in
    let p = err_from_is_err_and c.from_residual.result c.from_residual.ensures.1 in
    let e = c.in_err-run_refusal.ensures ∙ shared a.key.now a.iv.now a.first a.last a.bytes.now a.room _ c.laid_out_length-size.ensures in
    rw (p.1, p.2) (refuses_all (front a.key.now a.iv.now a.first a.last a.bytes.now a.room) _ e)

pub returns-then-room-size : goal.returns-then-room-size
returns-then-room-size c =
    let a = c.args in
    let h : a.room < laid_out_length a.last (length a.bytes.now) = omega (arith, c.laid_out_length-size.ensures) in
    let e = c.in_ok-run_refusal.ensures ∙ shared a.key.now a.iv.now a.first a.last a.bytes.now a.room _ c.laid_out_length-size.ensures in
    short a.key.now a.iv.now a.first a.last a.bytes.now a.room e h

pub returns : goal.returns
returns c =
    let a = c.args in
    let h : laid_out_length a.last (length a.bytes.now) ≤ a.room = omega (arith, c.laid_out_length-size.ensures) in
    let e = c.in_ok-run_refusal.ensures ∙ shared a.key.now a.iv.now a.first a.last a.bytes.now a.room _ c.laid_out_length-size.ensures in
    enough a.key.now a.iv.now a.first a.last a.bytes.now a.room e h
