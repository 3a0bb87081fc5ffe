-- Row by row.
use mathlib.Core.Path.{ap, sym, ◌∙◌}
use mathlib.Core.List.{◌∷◌}
use Rattle.std.proofs.lemmas.Result.{err_from_is_err_and}
use Rattle.mode.specs.Mode.{finish_named}
use Rattle.mode.specs.Table.{not_tag}
use Rattle.mode.proofs.Rows.{row_holds, row_passes, isnt_tag, is_tag}
use Rattle.mode.specs.declared.refusal.Refusal.TheVariants.{Length}
use Rattle.mode.specs.Refusals.{passed}
use Rattle.mode.proofs.Answers.{refuses_by, refuses_all}
use Rattle.tags.specs.Work.{key_and_iv_rows, record_rows}
use Rattle.tags.proofs.KeyAndIv.{lengths_pass, key_taken, iv_taken}
use Rattle.tags.proofs.record.test_refusal.Goals as goal

pub returns-in_err-key_and_iv : goal.returns-in_err-key_and_iv
returns-in_err-key_and_iv c =
    let a = c.args in
    let p = err_from_is_err_and c.from_residual.result c.from_residual.ensures.1 in
    rw (p.1, p.2) (refuses_all (key_and_iv_rows a.key.now a.iv.now) ((3, not_tag (finish_named a.finish) a.tag.now) ∷ record_rows a.key.now a.iv.now a.run) c.in_err-key_and_iv.ensures)

pub returns-then-tag-tag_length : goal.returns-then-tag-tag_length
returns-then-tag-tag_length c =
    let a = c.args in
    refuses_by Length (lengths_pass a.key.now a.iv.now c.in_ok-key_and_iv.ensures _ ∙ row_holds 3 _ _ (isnt_tag (finish_named a.finish) a.tag.now (λ e. c.if-tag-tag_length.true (e ∙ sym c.tag_length.ensures))))

pub record_refusal-requires : goal.record_refusal-requires
record_refusal-requires c =
    let a = c.args in
    record {
      key_length = key_taken a.key.now a.iv.now c.in_ok-key_and_iv.ensures;
      iv_len = iv_taken a.key.now a.iv.now c.in_ok-key_and_iv.ensures;
    }

pub returns : goal.returns
returns c =
    let a = c.args in
    c.record_refusal.ensures ∙ ap passed (sym (lengths_pass a.key.now a.iv.now c.in_ok-key_and_iv.ensures _ ∙ row_passes 3 _ _ (is_tag (finish_named a.finish) a.tag.now (c.if-tag-tag_length.false ∙ c.tag_length.ensures))))
