-- Refused by the first row that holds, or checked.
use mathlib.Core.Path.{◌≡◌, ap, ◌∙◌}
use Prim.Native.Nat.{ℕ, ◌+◌, ◌≤◌}
use native.Mathlib.Omega.{arith}
use mathlib.Core.Bool.{Bool}
use mathlib.Core.List.{List}
use lib.ListN.{length}
use Rattle.std.specs.Prelude.{Ok}
use Rattle.std.proofs.lemmas.Result.{err_from_is_err_and}
use Rattle.mode.specs.Refusals.{passed}
use Rattle.mode.specs.Aes.{aes}
use Rattle.mode.specs.declared.RunRecord.{RunRecord}
use Rattle.mode.specs.Mode.{ciphertext, blocks_of, in_words}
use Rattle.mode.specs.Table.{first_row, limit}
use Rattle.mode.specs.Calls.{check_run_rows, run_record, check_run}
use Rattle.mode.proofs.Blocks.{count_middle}
use Rattle.mode.proofs.Answers.{refuses, gives, has_passed, refused_answer, given_answer}
use Rattle.mode.proofs.Passed.{key_passed, iv_16, run_within}
use Rattle.calls.specs.Work.{run_rows}
use Rattle.calls.proofs.LaidOut.{check_rows}
use Rattle.calls.proofs.run.check_run.Goals as goal

-- the rows, by the bytes
rows_are : (key iv : List ℕ) (first : ℕ) (bytes : List ℕ) → passed (first_row (run_rows key iv first (length bytes))) ≡ passed (first_row (check_run_rows aes key iv first bytes))
rows_are key iv first bytes = ap (λ (rows : List (ℕ × Bool)). passed (first_row rows)) (check_rows key iv first bytes)

pub returns-in_err-run_refusal : goal.returns-in_err-run_refusal
unfolding check_run
returns-in_err-run_refusal c =
    let a = c.args in
    let p = err_from_is_err_and c.from_residual.result c.from_residual.ensures.1 in
    let d = refuses (check_run_rows aes a.key.now a.iv.now a.first a.bytes.now) (run_record in_words aes ciphertext a.key.now a.iv.now a.first (blocks_of a.bytes.now)) (c.in_err-run_refusal.ensures ∙ rows_are a.key.now a.iv.now a.first a.bytes.now) in
    rw (p.1, p.2) (refused_answer (λ r. r) (check_run in_words aes a.key.now a.iv.now a.first a.bytes.now) d.0 d.1)

pub check_run_record-requires : goal.check_run_record-requires
check_run_record-requires c =
    let a = c.args in
    let e = has_passed _ (c.in_ok-run_refusal.ensures ∙ rows_are a.key.now a.iv.now a.first a.bytes.now) in
    let h : a.first + length (blocks_of a.bytes.now) ≤ limit = run_within a.key.now a.iv.now _ a.first _ _ e in
    record {
      key_length = key_passed a.key.now _ e;
      iv_len = iv_16 a.key.now a.iv.now _ e;
      bytes_len_bound = omega (arith, h, count_middle a.bytes.now);
    }

pub returns : goal.returns
unfolding check_run
returns c =
    let a = c.args in
    let d = gives (check_run_rows aes a.key.now a.iv.now a.first a.bytes.now) (run_record in_words aes ciphertext a.key.now a.iv.now a.first (blocks_of a.bytes.now)) tt (c.in_ok-run_refusal.ensures ∙ rows_are a.key.now a.iv.now a.first a.bytes.now) in
    ap (λ (r : RunRecord). Ok r) c.check_run_record.ensures ∙ given_answer (λ r. r) (check_run in_words aes a.key.now a.iv.now a.first a.bytes.now) _ d
