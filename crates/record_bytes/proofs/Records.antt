-- A list of records in bytes, one record after the other: its length, and its record i.
use mathlib.Core.Path.{◌≡◌, refl, sym, ap, ◌∙◌}
use mathlib.Core.List.{List}
use Prim.Native.Nat.{ℕ, zero, suc, ◌+◌, ◌*◌, ◌/◌, ◌<◌}
use native.Mathlib.Omega.{arith}
use lib.ListN.{length, get_or, take, drop}
use lib.Seq.{drop-drop}
use Rattle.mode.specs.declared.RunRecord.{RunRecord}
use Rattle.record_bytes.specs.Encoding.{decoded, first_records, records_of}

length-first : (n : ℕ) (b : List ℕ) → length (first_records n b) ≡ n
unfolding first_records
length-first zero b = refl
length-first (suc n) b = ap suc (length-first n (drop 24 b))

first_at : (n i : ℕ) (b : List ℕ) (d : RunRecord) → i < n → get_or (first_records n b) i d ≡ decoded (take 24 (drop (i * 24) b))
unfolding first_records
first_at zero i b d h = absurd (omega arith)
first_at (suc n) zero b d h = refl
first_at (suc n) (suc i) b d h =
    let k : i < n = omega arith in
    let e : 24 + i * 24 ≡ suc i * 24 = omega arith in
    first_at n i (drop 24 b) d k ∙ ap (λ (x : List ℕ). decoded (take 24 x)) (drop-drop (i * 24) 24 b ∙ ap (λ (m : ℕ). drop m b) e)

module _ (b : List ℕ) where
  pub length-records : length (records_of b) ≡ length b / 24
  unfolding records_of
  length-records = length-first (length b / 24) b

  pub record_is : (i : ℕ) (d : RunRecord) → i < length b / 24 → decoded (take 24 (drop (i * 24) b)) ≡ get_or (records_of b) i d
  unfolding records_of
  record_is i d h = sym (first_at (length b / 24) i b d h)
