-- What is known where no row of the table holds.
use mathlib.Core.Path.{◌≡◌, refl}
use mathlib.Core.Bool.{Bool, true, false, not, ◌||◌}
use mathlib.Core.List.{List, ◌∷◌}
use Prim.Native.Nat.{ℕ, suc, ◌+◌, ◌-◌, ◌%◌, ◌≤◌}
use native.Mathlib.Omega.{arith}
use lib.Dec.{eqb, ltb}
use lib.ListN.{length}
use borrow.Author.Tests.{eqb-true, eq-eqb, ltb-false, le-ltb, not-false}
use Rattle.fips197.specs.Aes.{KeyLength}
use Rattle.mode.specs.Mode.{Finish, overhead}
use Rattle.mode.specs.Table.{first_row, limit, longest_sealed, not_key, not16, not_tag, not_sealed, not_sealed_within, beyond, beyond_within}
use Rattle.mode.specs.Parallel.{checking, Fits}
use Rattle.fips197.proofs.Keys.{has_key}

-- the head of rows that do not hold, and the rows after it
pub head_passed : (n : ℕ) (b : Bool) (rows : List (ℕ × Bool)) → first_row ((suc n, b) ∷ rows) ≡ 0 → b ≡ false
unfolding first_row
head_passed n false rows e = refl
head_passed n true rows e = absurd (omega arith)

pub tail_passed : (n : ℕ) (b : Bool) (rows : List (ℕ × Bool)) → first_row ((suc n, b) ∷ rows) ≡ 0 → first_row rows ≡ 0
unfolding first_row
tail_passed n false rows e = e
tail_passed n true rows e = absurd (omega arith)

pub has_16 : (a : List ℕ) → not16 a ≡ false → length a ≡ 16
unfolding not16
has_16 a e = eqb-true (length a) 16 (not-false (eqb (length a) 16) e)

-- rows that start with 1 for the key, and 2 for the IV
pub key_passed : (key : List ℕ) (rows : List (ℕ × Bool)) → first_row ((1, not_key key) ∷ rows) ≡ 0 → KeyLength key
key_passed key rows e = has_key key (head_passed 0 (not_key key) rows e)

pub iv_16 : (key iv : List ℕ) (rows : List (ℕ × Bool)) → first_row ((1, not_key key) ∷ (2, not16 iv) ∷ rows) ≡ 0 → length iv ≡ 16
iv_16 key iv rows e = has_16 iv (head_passed 1 (not16 iv) rows (tail_passed 0 (not_key key) ((2, not16 iv) ∷ rows) e))

-- 4 does not hold
pub within_limit : (first count : ℕ) (rows : List (ℕ × Bool)) → first_row ((4, beyond first count) ∷ rows) ≡ 0 → first + count ≤ limit
unfolding beyond_within
within_limit first count rows e = ltb-false limit (first + count) (head_passed 3 (ltb limit (first + count)) rows e)

-- 3 of a tag does not hold
pub has_tag : (t : Finish) (tag : List ℕ) → not_tag t tag ≡ false → length tag ≡ t.tag_length
unfolding not_tag
has_tag t tag e = eqb-true (length tag) t.tag_length (not-false (eqb (length tag) t.tag_length) e)

pub tag_passed : (t : Finish) (key iv tag : List ℕ) (rows : List (ℕ × Bool)) → first_row ((1, not_key key) ∷ (2, not16 iv) ∷ (3, not_tag t tag) ∷ rows) ≡ 0 → length tag ≡ t.tag_length
tag_passed t key iv tag rows e =
    has_tag t tag (head_passed 2 (not_tag t tag) rows (tail_passed 1 (not16 iv) ((3, not_tag t tag) ∷ rows) (tail_passed 0 (not_key key) ((2, not16 iv) ∷ (3, not_tag t tag) ∷ rows) e)))

-- after the key, the IV and a length: 4 does not hold
pub run_within : (key iv : List ℕ) (b : Bool) (first count : ℕ) (rows : List (ℕ × Bool))
    → first_row ((1, not_key key) ∷ (2, not16 iv) ∷ (3, b) ∷ (4, beyond first count) ∷ rows) ≡ 0 → first + count ≤ limit
run_within key iv b first count rows e =
    within_limit first count rows
    (tail_passed 2 b ((4, beyond first count) ∷ rows)
    (tail_passed 1 (not16 iv) ((3, b) ∷ (4, beyond first count) ∷ rows) (tail_passed 0 (not_key key) ((2, not16 iv) ∷ (3, b) ∷ (4, beyond first count) ∷ rows) e)))

pub or-false : (p q : Bool) → (p || q) ≡ false → (p ≡ false) × (q ≡ false)
or-false true q e = absurd (let z : ◌≡◌ {A = ℕ} 0 1 = cc in omega arith)
or-false false q e = (refl, e)

-- 3 of a sealed record does not hold
pub sealed_lengths : (t : Finish) (sealed : List ℕ) → not_sealed t sealed ≡ false → Fits (checking t sealed)
unfolding not_sealed_within Fits
sealed_lengths t sealed e =
    let size = length sealed in
    let rest = not (eqb ((size - overhead t) % 16) 0) in
    let a = or-false (ltb size (16 + overhead t)) (ltb (longest_sealed t) size || rest) e in
    let b = or-false (ltb (longest_sealed t) size) rest a.1 in
    (ltb-false size (16 + overhead t) a.0, ltb-false (longest_sealed t) size b.0, eqb-true ((size - overhead t) % 16) 0 (not-false (eqb ((size - overhead t) % 16) 0) b.1))

-- and where its length is right, it does not
pub lengths_sealed : (t : Finish) (sealed : List ℕ) → Fits (checking t sealed) → not_sealed t sealed ≡ false
unfolding not_sealed_within Fits
lengths_sealed t sealed h =
    let size = length sealed in
    rw (le-ltb size (16 + overhead t) h.0, le-ltb (longest_sealed t) size h.1, eq-eqb ((size - overhead t) % 16) 0 h.2)
