-- The key and the IV, then row by row.
use borrow.Author.Tests.{eq-eqb, ne_eqb}
use mathlib.Core.Path.{sym, ap, ◌∙◌}
use mathlib.Core.Bool.{Bool, not}
use mathlib.Core.List.{List, [], ◌∷◌}
use Prim.Native.Nat.{ℕ, ◌/◌, ◌%◌}
use native.Mathlib.Omega.{arith}
use lib.Dec.{eqb}
use Rattle.std.proofs.lemmas.Result.{err_from_is_err_and}
use Rattle.mode.specs.Aes.{aes}
use Rattle.mode.specs.Table.{beyond, zero_mask}
use Rattle.mode.proofs.Runs.{within}
use Rattle.mode.proofs.Rows.{row_holds, row_passes, no_row, is_beyond}
use Rattle.mode.specs.declared.refusal.Refusal.TheVariants.{Length, BeyondLimit, ZeroMask}
use Rattle.mode.proofs.Answers.{refuses_by, lets_pass, refuses_all}
use Rattle.tags.specs.Work.{key_and_iv_rows}
use Rattle.tags.proofs.KeyAndIv.{lengths_pass, key_taken, iv_taken}
use Rattle.calls.proofs.run.run_refusal.Goals as goal

-- the rows behind those of the key and the IV
abbrev rest : List ℕ → List ℕ → ℕ → ℕ → List (ℕ × Bool)
rest key iv first size = (3, not (eqb (size % 16) 0)) ∷ (4, beyond first (size / 16)) ∷ (10, zero_mask aes key iv) ∷ []

pub returns-in_err-key_and_iv : goal.returns-in_err-key_and_iv
returns-in_err-key_and_iv c =
    let a = c.args in
    let p = err_from_is_err_and c.from_residual.result c.from_residual.ensures.1 in
    rw (p.1, p.2) (refuses_all (key_and_iv_rows a.key.now a.iv.now) (rest a.key.now a.iv.now a.first a.size) c.in_err-key_and_iv.ensures)

pub returns-then-size-ne0 : goal.returns-then-size-ne0
returns-then-size-ne0 c =
    let a = c.args in
    refuses_by Length (lengths_pass a.key.now a.iv.now c.in_ok-key_and_iv.ensures _ ∙ row_holds 3 _ _ (ap not (ne_eqb (a.size % 16) 0 c.if-size-ne0.true)))

pub returns-then-first-size-gt-LIMIT : goal.returns-then-first-size-gt-LIMIT
returns-then-first-size-gt-LIMIT c =
    let a = c.args in
    refuses_by BeyondLimit (lengths_pass a.key.now a.iv.now c.in_ok-key_and_iv.ensures _ ∙ row_passes 3 _ _ (ap not (eq-eqb (a.size % 16) 0 c.if-size-ne0.false)) ∙ row_holds 4 _ _ (is_beyond a.first (a.size / 16) (omega arith)))

pub zero_mask-requires : goal.zero_mask-requires
zero_mask-requires c =
    let a = c.args in
    record {
      key_length = key_taken a.key.now a.iv.now c.in_ok-key_and_iv.ensures;
      iv_len = iv_taken a.key.now a.iv.now c.in_ok-key_and_iv.ensures;
    }

pub returns-then-zero_mask : goal.returns-then-zero_mask
returns-then-zero_mask c =
    let a = c.args in
    refuses_by ZeroMask (lengths_pass a.key.now a.iv.now c.in_ok-key_and_iv.ensures _ ∙ row_passes 3 _ _ (ap not (eq-eqb (a.size % 16) 0 c.if-size-ne0.false)) ∙ row_passes 4 _ _ (within a.first (a.size / 16) (omega arith))
    ∙ row_holds 10 _ _ (sym c.zero_mask.ensures ∙ c.if-zero_mask.true))

pub returns : goal.returns
returns c =
    let a = c.args in
    lets_pass (lengths_pass a.key.now a.iv.now c.in_ok-key_and_iv.ensures _ ∙ row_passes 3 _ _ (ap not (eq-eqb (a.size % 16) 0 c.if-size-ne0.false)) ∙ row_passes 4 _ _ (within a.first (a.size / 16) (omega arith))
    ∙ row_passes 10 _ _ (sym c.zero_mask.ensures ∙ c.if-zero_mask.false) ∙ no_row)
