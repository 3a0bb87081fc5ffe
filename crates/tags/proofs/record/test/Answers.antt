-- Refused by the first row that holds, or tested.
use mathlib.Core.Path.{◌≡◌, sym, ap, ◌∙◌}
use mathlib.Core.Bool.{Bool}
use mathlib.Core.List.{List}
use Prim.Native.Nat.{ℕ}
use native.Mathlib.Omega.{arith}
use lib.ListN.{length, take}
use Rattle.std.specs.Prelude.{Ok}
use Rattle.std.proofs.lemmas.Result.{err_from_is_err_and}
use Rattle.blocks.specs.Bytes.{same}
use Rattle.mode.specs.declared.finish.Finish.{Finish}
use Rattle.mode.specs.declared.RunRecord.{RunRecord}
use Rattle.mode.specs.Mode.{in_words, finish_named}
use Rattle.mode.specs.Aes.{aes}
use Rattle.mode.specs.Refusals.{passed}
use Rattle.mode.specs.Calls.{closing_tag, held_tag, test as test_of, test_of_answer}
use Rattle.mode.specs.Table.{first_row}
use Rattle.tags.specs.Work.{test_first_rows}
use Rattle.mode.proofs.Answers.{has_passed, compared, test_answer, test_refused}
use Rattle.mode.proofs.Passed.{key_passed, iv_16, tag_passed}
use Rattle.mode.proofs.Aes.{aes_lawful}
use Rattle.mode.proofs.Finishes.{both, tag_within, held_front}
use Rattle.mode.proofs.SealedLength.{closing_tag_long}
use Rattle.tags.proofs.record.test.Goals as goal

pub returns-in_err-test_refusal : goal.returns-in_err-test_refusal
unfolding test_of
returns-in_err-test_refusal c =
    let a = c.args in
    let p = err_from_is_err_and c.from_residual.result c.from_residual.ensures.1 in
    rw (p.1, p.2) (test_refused (test_first_rows (finish_named a.finish) a.key.now a.iv.now a.run a.tag.now) _ c.in_err-test_refusal.ensures)

module _ (t : Finish) (key iv tag : List ℕ) (r : RunRecord) (h : Ok tt ≡ passed (first_row (test_first_rows (finish_named t) key iv r tag))) where
  none : first_row (test_first_rows (finish_named t) key iv r tag) ≡ 0
  none = has_passed _ h

  -- the tag is as long as the finish makes them
  size : length tag ≡ (finish_named t).tag_length
  size = tag_passed (finish_named t) key iv tag _ none

  -- the comparison of the tag that closing gives, as it is held, with the tag handed in
  tested : (closed : List ℕ) (b : Bool) → closed ≡ held_tag (closing_tag in_words (finish_named t) aes key iv r) → b ≡ same (take (length tag) closed) tag
      → compared b ≡ test_of_answer (test_of in_words (finish_named t) aes key iv r tag)
  unfolding test_of closing_tag
  tested closed b ec eb =
      let tag_is = closing_tag in_words (finish_named t) aes key iv r in
      let long : length tag_is ≡ length tag = closing_tag_long aes aes_lawful key (key_passed key _ none) iv (iv_16 key iv _ none) (finish_named t) (both aes aes_lawful t) r ∙ sym size in
      let e : b ≡ same tag_is tag = eb ∙ ap (λ (x : List ℕ). same x tag) (ap (take (length tag)) ec ∙ held_front tag_is (length tag) long) in
      ap compared e ∙ test_answer (test_first_rows (finish_named t) key iv r tag) (same tag_is tag) tt h

pub closing_tag-closed-requires-clause-key_length : goal.closing_tag-closed-requires-clause-key_length
closing_tag-closed-requires-clause-key_length c =
    let a = c.args in
    key_passed a.key.now _ (none a.finish a.key.now a.iv.now a.tag.now a.run c.in_ok-test_refusal.ensures)

pub closing_tag-closed-requires-clause-iv_len : goal.closing_tag-closed-requires-clause-iv_len
closing_tag-closed-requires-clause-iv_len c =
    let a = c.args in
    iv_16 a.key.now a.iv.now _ (none a.finish a.key.now a.iv.now a.tag.now a.run c.in_ok-test_refusal.ensures)

pub is_tag-requires : goal.is_tag-requires
is_tag-requires c =
    let a = c.args in
    omega (arith, size a.finish a.key.now a.iv.now a.tag.now a.run c.in_ok-test_refusal.ensures, tag_within a.finish)

pub returns-then-is_tag : goal.returns-then-is_tag
returns-then-is_tag c =
    let a = c.args in
    ap compared (sym c.if-is_tag.true) ∙ tested a.finish a.key.now a.iv.now a.tag.now a.run c.in_ok-test_refusal.ensures c.closing_tag-closed.result c.is_tag.result c.closing_tag-closed.ensures c.is_tag.ensures

pub returns-else-is_tag : goal.returns-else-is_tag
returns-else-is_tag c =
    let a = c.args in
    ap compared (sym c.if-is_tag.false) ∙ tested a.finish a.key.now a.iv.now a.tag.now a.run c.in_ok-test_refusal.ensures c.closing_tag-closed.result c.is_tag.result c.closing_tag-closed.ensures c.is_tag.ensures
