-- Row by row.
use mathlib.Core.Path.{◌≡◌, sym, ◌∙◌}
use mathlib.Core.Bool.{Bool, false}
use mathlib.Core.List.{List, ◌∷◌}
use Prim.Native.Nat.{ℕ}
use native.Mathlib.Omega.{arith}
use lib.ListN.{length, take}
use lib.Seq.{length-take-le}
use Rattle.fips197.proofs.Keys.{has_key}
use Rattle.mode.specs.declared.finish.Finish.{Finish}
use Rattle.mode.specs.Mode.{finish_named, iv_part}
use Rattle.mode.specs.Table.{first_row, not_key, not_sealed}
use Rattle.mode.specs.Parallel.{Fits}
use Rattle.mode.proofs.Rows.{row_holds, row_passes, no_row}
use Rattle.mode.proofs.Passed.{sealed_lengths}
use Rattle.mode.specs.declared.refusal.Refusal.TheVariants.{KeyLength, Length, ZeroMask}
use Rattle.mode.proofs.Answers.{refuses_by, lets_pass}
use Rattle.opening.proofs.rows.open_refusal.Goals as goal

pub returns-then-not_key : goal.returns-then-not_key
returns-then-not_key c = refuses_by KeyLength (row_holds 1 _ _ (sym c.not_key.ensures ∙ c.if-not_key.true))

-- what holds once row 3 is passed: the IV is the record's first 16 bytes
iv-long : (finish : Finish) (sealed : List ℕ) → not_sealed (finish_named finish) sealed ≡ false → length (take 16 sealed) ≡ 16
unfolding Fits
iv-long finish sealed e = length-take-le 16 sealed (let h = (sealed_lengths (finish_named finish) sealed e).0 in omega (arith, h))

-- rows 1 and 3 are passed
both-pass : (finish : Finish) (key sealed : List ℕ) (rows : List (ℕ × Bool)) → not_key key ≡ false → not_sealed (finish_named finish) sealed ≡ false
    → first_row ((1, not_key key) ∷ (3, not_sealed (finish_named finish) sealed) ∷ rows) ≡ first_row rows
both-pass finish key sealed rows k h = row_passes 1 _ _ k ∙ row_passes 3 _ _ h

pub returns-then-not_sealed : goal.returns-then-not_sealed
returns-then-not_sealed c = refuses_by Length (row_passes 1 _ _ (sym c.not_key.ensures ∙ c.if-not_key.false) ∙ row_holds 3 _ _ (sym c.not_sealed.ensures ∙ c.if-not_sealed.true))

pub slice_bounds-zero_mask-end : goal.slice_bounds-zero_mask-end
slice_bounds-zero_mask-end c = let a = c.args in sym (iv-long a.finish a.sealed.now (sym c.not_sealed.ensures ∙ c.if-not_sealed.false))

pub zero_mask-requires : goal.zero_mask-requires
zero_mask-requires c =
    let a = c.args in
    record {
      key_length = has_key _ (sym c.not_key.ensures ∙ c.if-not_key.false);
      iv_len = iv-long a.finish a.sealed.now (sym c.not_sealed.ensures ∙ c.if-not_sealed.false);
    }

pub returns-then-zero_mask : goal.returns-then-zero_mask
unfolding iv_part
returns-then-zero_mask c =
    let a = c.args in
    refuses_by ZeroMask (both-pass a.finish a.key.now a.sealed.now _ (sym c.not_key.ensures ∙ c.if-not_key.false) (sym c.not_sealed.ensures ∙ c.if-not_sealed.false) ∙ row_holds 10 _ _ (sym c.zero_mask.ensures ∙ c.if-zero_mask.true))

pub returns : goal.returns
unfolding iv_part
returns c =
    let a = c.args in
    lets_pass (both-pass a.finish a.key.now a.sealed.now _ (sym c.not_key.ensures ∙ c.if-not_key.false) (sym c.not_sealed.ensures ∙ c.if-not_sealed.false)
    ∙ row_passes 10 _ _ (sym c.zero_mask.ensures ∙ c.if-zero_mask.false) ∙ no_row)
