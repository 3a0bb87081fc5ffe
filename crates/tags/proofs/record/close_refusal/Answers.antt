-- Row by row.
use mathlib.Core.Path.{ap, sym, ◌∙◌}
use Rattle.std.proofs.lemmas.Result.{err_from_is_err_and}
use Rattle.mode.specs.Refusals.{passed}
use Rattle.mode.proofs.Answers.{refuses_all}
use Rattle.tags.specs.Work.{key_and_iv_rows, record_rows}
use Rattle.tags.proofs.KeyAndIv.{lengths_pass, key_taken, iv_taken}
use Rattle.tags.proofs.record.close_refusal.Goals as goal

pub returns-in_err-key_and_iv : goal.returns-in_err-key_and_iv
returns-in_err-key_and_iv c =
    let a = c.args in
    let p = err_from_is_err_and c.from_residual.result c.from_residual.ensures.1 in
    rw (p.1, p.2) (refuses_all (key_and_iv_rows a.key.now a.iv.now) (record_rows a.key.now a.iv.now a.run) c.in_err-key_and_iv.ensures)

pub record_refusal-requires : goal.record_refusal-requires
record_refusal-requires c =
    let a = c.args in
    record {
      key_length = key_taken a.key.now a.iv.now c.in_ok-key_and_iv.ensures;
      iv_len = iv_taken a.key.now a.iv.now c.in_ok-key_and_iv.ensures;
    }

pub returns : goal.returns
returns c =
    let a = c.args in
    c.record_refusal.ensures ∙ ap passed (sym (lengths_pass a.key.now a.iv.now c.in_ok-key_and_iv.ensures (record_rows a.key.now a.iv.now a.run)))
