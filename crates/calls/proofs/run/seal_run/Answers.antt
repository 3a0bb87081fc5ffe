-- Refused by the first row that holds, or sealed.
use mathlib.Core.Path.{ap, ◌∙◌}
use mathlib.Core.List.{◌++◌}
use Prim.Native.Nat.{ℕ, ◌-◌}
use native.Mathlib.Omega.{arith}
use lib.ListN.{length}
use Rattle.std.specs.Prelude.{Ok}
use Rattle.std.proofs.lemmas.Result.{err_from_is_err_and}
use Rattle.blocks.specs.Bytes.{zeros}
use Rattle.mode.specs.Mode.{plaintext, in_words}
use Rattle.mode.specs.Aes.{aes}
use Rattle.mode.specs.Table.{first_row}
use Rattle.mode.specs.Calls.{seal_run_rows, blocks_of_run, pass_from, run_record, seal_run}
use Rattle.calls.specs.Layout.{kind_of, laid_out_length}
use Rattle.calls.proofs.LaidOut.{run_output_long}
use Rattle.mode.proofs.Answers.{refuses, gives, has_passed, refused_run, given_run, refused_output, given_output}
use Rattle.mode.proofs.Passed.{key_passed, iv_16}
use Rattle.calls.proofs.Fits.{run_fits}
use Rattle.blocks.proofs.Zeros.{fresh}
use Rattle.calls.proofs.run.seal_run.Goals as goal

pub returns-in_err-seal_run_refusal : goal.returns-in_err-seal_run_refusal
unfolding seal_run
returns-in_err-seal_run_refusal c =
    let a = c.args in
    let room = length a.out.now in
    let p = err_from_is_err_and c.from_residual.result c.from_residual.ensures.1 in
    let d = refuses (seal_run_rows aes a.key.now a.iv.now a.first (kind_of a.last) a.bytes.now room) (run_record in_words aes plaintext a.key.now a.iv.now a.first (blocks_of_run (kind_of a.last) a.bytes.now)) c.in_err-seal_run_refusal.ensures in
    record {
      answer = rw (p.1, p.2) (refused_run _ _ room d.0 d.1);
      output = c.clear.ensures ∙ refused_output _ _ room d.0;
    }

pub seal_run_into-requires : goal.seal_run_into-requires
seal_run_into-requires c =
    let a = c.args in
    let q = c.clear in
    let room = length a.out.now in
    let e = has_passed (first_row (seal_run_rows aes a.key.now a.iv.now a.first (kind_of a.last) a.bytes.now room)) c.in_ok-seal_run_refusal.ensures in
    let f = run_fits a.key.now a.iv.now a.first a.last a.bytes.now room e in
    record {
      key_length = key_passed a.key.now _ e;
      iv_len = iv_16 a.key.now a.iv.now _ e;
      fresh = fresh (length a.out.now) q.new.d q.ensures;
      bytes_in_bounds = omega (arith, f.0, q.auto.d);
      bytes_value = f.1.0;
      bytes_bound = f.1.1;
    }

pub returns : goal.returns
unfolding seal_run
returns c =
    let a = c.args in
    let q = c.clear in
    let y = c.seal_run_into in
    let room = length a.out.now in
    let n = laid_out_length a.last (length a.bytes.now) in
    let e = has_passed (first_row (seal_run_rows aes a.key.now a.iv.now a.first (kind_of a.last) a.bytes.now room)) c.in_ok-seal_run_refusal.ensures in
    let f = run_fits a.key.now a.iv.now a.first a.last a.bytes.now room e in
    let blocks = blocks_of_run (kind_of a.last) a.bytes.now in
    let d = gives (seal_run_rows aes a.key.now a.iv.now a.first (kind_of a.last) a.bytes.now room) (run_record in_words aes plaintext a.key.now a.iv.now a.first blocks) tt c.in_ok-seal_run_refusal.ensures in
    let l = run_output_long a.key.now a.iv.now a.first a.last a.bytes.now (key_passed a.key.now _ e) (iv_16 a.key.now a.iv.now _ e) f.1.0 in record {
      answer = (λ i. Ok (record { length = c.laid_out_length.ensures i; run = y.ensures.answer i })) ∙ given_run _ _ room _ n d l;
      output = y.ensures.output ∙ ap (λ (k : ℕ). (pass_from aes plaintext a.key.now a.iv.now a.first blocks).output ++ zeros (k - n)) q.auto.d ∙ given_output _ _ room _ n d l;
    }
