-- Refused by the first row that holds, or sealed.
use mathlib.Core.Path.{ap, ◌∙◌}
use mathlib.Core.List.{◌++◌}
use Prim.Native.Nat.{ℕ, ◌-◌}
use native.Mathlib.Omega.{arith}
use lib.ListN.{length}
use Rattle.std.specs.Prelude.{Ok}
use Rattle.std.proofs.lemmas.Result.{err_from_is_err_and}
use Rattle.blocks.specs.Bytes.{zeros}
use Rattle.mode.specs.Mode.{finish_named, sealed_record}
use Rattle.mode.specs.Aes.{aes}
use Rattle.mode.specs.Table.{first_row}
use Rattle.mode.specs.Calls.{seal_rows, seal as seal_of}
use Rattle.mode.proofs.Aes.{aes_lawful}
use Rattle.mode.proofs.Finishes.{both}
use Rattle.mode.proofs.SealedLength.{sealed_length_lem}
use Rattle.mode.proofs.Answers.{refuses, gives, has_passed, refused_written, given_written, refused_output, given_output}
use Rattle.mode.proofs.Passed.{key_passed, iv_16}
use Rattle.calls.specs.Work.{sealed_length}
use Rattle.calls.proofs.Fits.{sealed_fits}
use Rattle.blocks.proofs.Zeros.{fresh}
use Rattle.calls.proofs.seal.seal.Goals as goal

pub returns-in_err-seal_refusal : goal.returns-in_err-seal_refusal
unfolding seal_of
returns-in_err-seal_refusal c =
    let a = c.args in
    let room = length a.out.now in
    let p = err_from_is_err_and c.from_residual.result c.from_residual.ensures.1 in
    let d = refuses (seal_rows (finish_named a.finish) aes a.key.now a.iv.now a.message.now room) (sealed_record (finish_named a.finish) aes a.key.now a.iv.now a.message.now) c.in_err-seal_refusal.ensures in
    record {
      answer = rw (p.1, p.2) (refused_written _ _ room d.0 d.1);
      output = c.clear.ensures ∙ refused_output _ _ room d.0;
    }

pub seal_into-requires : goal.seal_into-requires
seal_into-requires c =
    let a = c.args in
    let q = c.clear in
    let e = has_passed (first_row (seal_rows (finish_named a.finish) aes a.key.now a.iv.now a.message.now (length a.out.now))) c.in_ok-seal_refusal.ensures in
    let f = sealed_fits a.finish a.key.now a.iv.now a.message.now (length a.out.now) e in
    record {
      key_length = key_passed a.key.now _ e;
      iv_len = iv_16 a.key.now a.iv.now _ e;
      fresh = fresh (length a.out.now) q.new.d q.ensures;
      message_in_bounds = omega (arith, f, q.auto.d);
    }

pub returns : goal.returns
unfolding seal_of
returns c =
    let a = c.args in
    let q = c.clear in
    let y = c.seal_into in
    let room = length a.out.now in
    let n = sealed_length (finish_named a.finish) (length a.message.now) in
    let e = has_passed (first_row (seal_rows (finish_named a.finish) aes a.key.now a.iv.now a.message.now room)) c.in_ok-seal_refusal.ensures in
    let whole = sealed_record (finish_named a.finish) aes a.key.now a.iv.now a.message.now in
    let d = gives (seal_rows (finish_named a.finish) aes a.key.now a.iv.now a.message.now room) whole tt c.in_ok-seal_refusal.ensures in
    let l = sealed_length_lem aes aes_lawful a.key.now (key_passed a.key.now _ e) a.iv.now (iv_16 a.key.now a.iv.now _ e) (finish_named a.finish) (both aes aes_lawful a.finish) a.message.now in record {
      answer = ap (λ (k : ℕ). Ok k) y.ensures.answer ∙ given_written _ _ room _ n d l;
      output = y.ensures.output ∙ ap (λ (k : ℕ). whole ++ zeros (k - n)) q.auto.d ∙ given_output _ _ room _ n d l;
    }
