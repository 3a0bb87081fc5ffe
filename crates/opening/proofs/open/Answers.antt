-- Refused by the first row that holds, or opened.
use mathlib.Core.Path.{ap, ◌∙◌}
use Prim.Native.Nat.{ℕ}
use lib.ListN.{length}
use Rattle.std.proofs.lemmas.Result.{err_from_is_err_and}
use Rattle.mode.specs.Mode.{finish_named}
use Rattle.mode.specs.Aes.{aes}
use Rattle.mode.specs.Calls.{open_sealed, written_of}
use Rattle.mode.proofs.Answers.{has_passed, refused_written, refused_output}
use Rattle.opening.proofs.Opening.{lengths_refused}
use Rattle.blocks.proofs.Zeros.{fresh}
use Rattle.opening.proofs.open.Goals as goal

pub returns-in_err-open_refusal : goal.returns-in_err-open_refusal
unfolding open_sealed
returns-in_err-open_refusal c =
    let a = c.args in
    let room = length a.out.now in
    let p = err_from_is_err_and c.from_residual.result c.from_residual.ensures.1 in
    let d = lengths_refused (finish_named a.finish) a.key.now a.sealed.now room c.in_err-open_refusal.ensures in
    record {
      answer = rw (p.1, p.2) (refused_written _ _ room d.0 d.1);
      output = c.clear.ensures ∙ refused_output _ _ room d.0;
    }

pub open_into-requires : goal.open_into-requires
open_into-requires c =
    let q = c.clear in
    record {
      sealed_value = has_passed _ c.in_ok-open_refusal.ensures;
      fresh = fresh (length c.args.out.now) q.new.d q.ensures;
    }

pub returns : goal.returns
returns c =
    let a = c.args in
    let k = c.clear.auto.d in
    let y = c.open_into in record {
      answer = y.ensures.answer ∙ ap (λ (n : ℕ). written_of (open_sealed (finish_named a.finish) aes a.key.now a.sealed.now n)) k;
      output = y.ensures.output ∙ ap (λ (n : ℕ). (open_sealed (finish_named a.finish) aes a.key.now a.sealed.now n).output) k;
    }
