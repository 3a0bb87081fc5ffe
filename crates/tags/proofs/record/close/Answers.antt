-- Refused by the first row that holds, or closed.
use mathlib.Core.Path.{ap, ◌∙◌}
use mathlib.Core.List.{List}
use Prim.Native.Nat.{ℕ}
use Rattle.std.specs.Prelude.{Ok}
use Rattle.std.proofs.lemmas.Result.{err_from_is_err_and}
use Rattle.mode.specs.Mode.{in_words, finish_named}
use Rattle.mode.specs.Aes.{aes}
use Rattle.mode.specs.Table.{first_row}
use Rattle.mode.specs.Calls.{close_rows, closing_tag, held_tag, close as close_of}
use Rattle.mode.proofs.Answers.{refuses, gives, has_passed, refused_answer, given_answer}
use Rattle.mode.proofs.Passed.{key_passed, iv_16}
use Rattle.tags.proofs.record.close.Goals as goal

pub returns-in_err-close_refusal : goal.returns-in_err-close_refusal
unfolding close_of
returns-in_err-close_refusal c =
    let a = c.args in
    let f = finish_named a.finish in
    let p = err_from_is_err_and c.from_residual.result c.from_residual.ensures.1 in
    let d = refuses (close_rows in_words aes a.key.now a.iv.now a.run) (closing_tag in_words f aes a.key.now a.iv.now a.run) c.in_err-close_refusal.ensures in
    rw (p.1, p.2) (refused_answer held_tag (close_of in_words f aes a.key.now a.iv.now a.run) d.0 d.1)

pub closing_tag-requires-clause-key_length : goal.closing_tag-requires-clause-key_length
closing_tag-requires-clause-key_length c =
    let a = c.args in
    key_passed a.key.now _ (has_passed (first_row (close_rows in_words aes a.key.now a.iv.now a.run)) c.in_ok-close_refusal.ensures)

pub closing_tag-requires-clause-iv_len : goal.closing_tag-requires-clause-iv_len
closing_tag-requires-clause-iv_len c =
    let a = c.args in
    iv_16 a.key.now a.iv.now _ (has_passed (first_row (close_rows in_words aes a.key.now a.iv.now a.run)) c.in_ok-close_refusal.ensures)

pub returns : goal.returns
unfolding close_of
returns c =
    let a = c.args in
    let f = finish_named a.finish in
    let d = gives (close_rows in_words aes a.key.now a.iv.now a.run) (closing_tag in_words f aes a.key.now a.iv.now a.run) tt c.in_ok-close_refusal.ensures in
    ap (λ (t : List ℕ). Ok t) c.closing_tag.ensures
    ∙ given_answer held_tag (close_of in_words f aes a.key.now a.iv.now a.run) (closing_tag in_words f aes a.key.now a.iv.now a.run) d
