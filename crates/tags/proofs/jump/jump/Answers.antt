-- Refused by the first row that holds, or jumped.
use borrow.Author.Tests.{ltb-false}
use mathlib.Core.Path.{◌≡◌, ap, ap₂, ◌∙◌}
use mathlib.Core.List.{List, ◌++◌}
use Prim.Native.Nat.{ℕ, ◌-◌, ◌≤◌}
use native.Mathlib.Omega.{arith}
use lib.IntN.{ℤ}
use lib.ListN.{length}
use mir.Syntax.{w32}
use mir.ValLaws.{to_z-of_z}
use Rattle.std.specs.Prelude.{Ok}
use Rattle.std.proofs.lemmas.Result.{err_from_is_err_and}
use Rattle.blocks.specs.Bytes.{zeros}
use Rattle.blocks.specs.Words.{bytes_of}
use Rattle.mode.specs.Table.{first_row}
use Rattle.mode.specs.Refusals.{passed}
use Rattle.mode.specs.Calls.{jump_rows, jump_mask}
use Rattle.mode.proofs.Answers.{refuses, gives, has_passed, refused_written, refused_output, given_written, given_output}
use Rattle.mode.proofs.Passed.{head_passed, tail_passed, has_16}
use Rattle.blocks.proofs.Parts.{whole_16}
use Rattle.blocks.proofs.Zeros.{stored_front}
use Rattle.gf128.specs.Gf128.{jump_by}
use Rattle.gf128.proofs.JumpBy.{length-jump_by}
use Rattle.tags.proofs.jump.jump.Goals as goal

-- the rows as the code asks for them: of the distance as the machine reads it, and of the output after it was cleared
module _ (mask out : List ℕ) (read distance : ℤ) (room : ℕ) (er : read ≡ distance) (eo : room ≡ length out) where
  rows_are : passed (first_row (jump_rows mask read room)) ≡ passed (first_row (jump_rows mask distance (length out)))
  rows_are = ap₂ (λ (d : ℤ) (n : ℕ). passed (first_row (jump_rows mask d n))) er eo

  module _ {u : Unit {0}} (h : Ok u ≡ passed (first_row (jump_rows mask read room))) where
    none : first_row (jump_rows mask distance (length out)) ≡ 0
    none = has_passed _ (h ∙ rows_are)

    mask-16 : length mask ≡ 16
    mask-16 = has_16 mask (head_passed 2 _ _ none)

    room-16 : 16 ≤ length out
    room-16 = ltb-false (length out) 16 (head_passed 4 _ _ (tail_passed 3 _ _ (tail_passed 2 _ _ none)))

pub returns-in_err-jump_refusal : goal.returns-in_err-jump_refusal
unfolding jump_mask
returns-in_err-jump_refusal c =
    let a = c.args in
    let room = length a.out.now in
    let p = err_from_is_err_and c.from_residual.result c.from_residual.ensures.1 in
    let d = refuses (jump_rows a.mask.now a.distance room) (jump_by a.distance a.mask.now) (c.in_err-jump_refusal.ensures ∙ rows_are a.mask.now a.out.now _ a.distance _ (to_z-of_z w32 a.distance c.ranges.distance) c.clear.auto.d) in
    record {
      answer = rw (p.1, p.2) (refused_written _ _ room d.0 d.1);
      output = c.clear.ensures ∙ refused_output _ _ room d.0;
    }

pub load-m-requires : goal.load-m-requires
load-m-requires c =
    let a = c.args in
    omega (arith, mask-16 a.mask.now a.out.now _ a.distance _ (to_z-of_z w32 a.distance c.ranges.distance) c.clear.auto.d c.in_ok-jump_refusal.ensures)

pub store-requires : goal.store-requires
store-requires c =
    let a = c.args in
    omega (arith, room-16 a.mask.now a.out.now _ a.distance _ (to_z-of_z w32 a.distance c.ranges.distance) c.clear.auto.d c.in_ok-jump_refusal.ensures, c.clear.auto.d)

pub returns : goal.returns
unfolding jump_mask
returns c =
    let a = c.args in
    let room = length a.out.now in
    let read = to_z-of_z w32 a.distance c.ranges.distance in
    let long = mask-16 a.mask.now a.out.now _ a.distance _ read c.clear.auto.d c.in_ok-jump_refusal.ensures in
    let l : length (jump_by a.distance a.mask.now) ≡ 16 = length-jump_by a.distance a.mask.now long in
    let j = c.jump_by-jumped.ensures ∙ ap₂ jump_by read (c.load-m.ensures ∙ whole_16 a.mask.now long) in
    let d = gives (jump_rows a.mask.now a.distance room) (jump_by a.distance a.mask.now) tt (c.in_ok-jump_refusal.ensures ∙ rows_are a.mask.now a.out.now _ a.distance _ read c.clear.auto.d) in record {
      answer = given_written _ _ room _ 16 d l;
      output = stored_front 16 c.clear.new.d c.store.new.d (bytes_of c.jump_by-jumped.result) room c.clear.ensures c.store.ensures
          ∙ ap (λ (z : List ℕ). z ++ zeros (room - 16)) j ∙ given_output _ _ room _ 16 d l;
    }
