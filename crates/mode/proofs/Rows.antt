-- Rows of the table, one after another: how a call comes to its refusal or to its answer.
use mathlib.Core.Path.{◌≡◌, refl, sym, ap, ◌∙◌}
use mathlib.Core.Bool.{Bool, true, false, cond, not, ◌&&◌, ◌||◌, or-false}
use mathlib.Core.List.{List, [], ◌∷◌, ◌++◌}
use Prim.Native.Nat.{ℕ, zero, suc, ◌+◌, ◌-◌, ◌%◌, ◌≤◌, ◌<◌}
use native.Mathlib.Omega.{arith}
use lib.Dec.{T, eqb, ltb, leb-suc-suc}
use lib.IntN.{ℤ, pos, negsuc, neg_ℤ}
use lib.ListN.{length}
use lib.Signed.{lt_z}
use borrow.Author.Tests.{eq-eqb, ne_eqb, le-ltb, lt-ltb}
use Rattle.blocks.specs.Bytes.{zeros}
use Rattle.mode.specs.Mode.{Finish, overhead, RunRecord, in_words}
use Rattle.mode.specs.Table.{Answer, refused, given, decide, first_row, limit, longest_message, longest_message_within, longest_sealed, longest_sealed_within, not16, unaligned, too_long, too_long_within, not_tag, not_sealed, not_sealed_within, beyond, beyond_within, too_far, too_far_within, not_whole}
use Rattle.mode.specs.Calls.{outcome_by, number}

-- ---- the first row

pub row_holds : (n : ℕ) (b : Bool) (rows : List (ℕ × Bool)) → b ≡ true → first_row ((n, b) ∷ rows) ≡ n
unfolding first_row
row_holds n b rows e = ap (λ (t : Bool). cond t n (first_row rows)) e

pub row_passes : (n : ℕ) (b : Bool) (rows : List (ℕ × Bool)) → b ≡ false → first_row ((n, b) ∷ rows) ≡ first_row rows
unfolding first_row
row_passes n b rows e = ap (λ (t : Bool). cond t n (first_row rows)) e

pub no_row : first_row [] ≡ 0
unfolding first_row
no_row = refl

-- no row has the number 0
abbrev pub numbered : List (ℕ × Bool) → Bool
numbered [] = true
numbered (row ∷ rows) = not (eqb row.0 0) && numbered rows

-- the first rows refuse
pub first-refuses : {A : Type 0} (rows more : List (ℕ × Bool)) (a : A) (n : ℕ) → first_row rows ≡ n → (n ≡ 0 → ⊥) → decide (rows ++ more) a ≡ refused n
unfolding first_row decide
first-refuses [] more a n e h = absurd (h (sym e))
first-refuses (row ∷ rows) more a n e h = by row.1 (λ d. first-refuses rows more a n d h) e
  where
    by : (t : Bool) → (first_row rows ≡ n → decide (rows ++ more) a ≡ refused n) → cond t row.0 (first_row rows) ≡ n
        → cond t (refused row.0) (decide (rows ++ more) a) ≡ refused n
    by true f e = ap (λ (k : ℕ). refused k) e
    by false f e = f e

-- the first rows let pass
pub first_passes : {A : Type 0} (rows more : List (ℕ × Bool)) (a : A) → T (numbered rows) → first_row rows ≡ 0 → decide (rows ++ more) a ≡ decide more a
unfolding first_row decide
first_passes [] more a t e = refl
first_passes (row ∷ rows) more a t e = by row.0 row.1 t (λ u d. first_passes rows more a u d) e
  where
    last_of : (p q : Bool) → T (p && q) → T q
    last_of true q t = t
    last_of false q t = absurd t

    never : (k : ℕ) → T (not (eqb k 0) && numbered rows) → k ≡ 0 → ⊥
    never zero t e = t
    never (suc k) t e = omega arith

    by : (k : ℕ) (b : Bool) → T (not (eqb k 0) && numbered rows) → (T (numbered rows) → first_row rows ≡ 0 → decide (rows ++ more) a ≡ decide more a)
        → cond b k (first_row rows) ≡ 0 → cond b (refused k) (decide (rows ++ more) a) ≡ decide more a
    by k false t f e = f (last_of (not (eqb k 0)) (numbered rows) t) e
    by k true t f e = absurd (never k t e)

-- the same of the first row's number
row_number : (rows : List (ℕ × Bool)) → first_row rows ≡ number {A = Unit {0}} (decide rows tt)
unfolding first_row decide number
row_number [] = refl
row_number (row ∷ rows) = by row.1 (row_number rows)
  where
    by : (t : Bool) → first_row rows ≡ number {A = Unit {0}} (decide rows tt) → cond t row.0 (first_row rows) ≡ number {A = Unit {0}} (cond t (refused row.0) (decide rows tt))
    by true e = refl
    by false e = e

pub front-refuses : (rows more : List (ℕ × Bool)) (n : ℕ) → first_row rows ≡ n → (n ≡ 0 → ⊥) → first_row (rows ++ more) ≡ n
unfolding number
front-refuses rows more n e h = row_number (rows ++ more) ∙ ap number (first-refuses rows more tt n e h)

pub front_passes : (rows more : List (ℕ × Bool)) → T (numbered rows) → first_row rows ≡ 0 → first_row (rows ++ more) ≡ first_row more
front_passes rows more t e = row_number (rows ++ more) ∙ ap number (first_passes rows more tt t e) ∙ sym (row_number more)

pub no_more_rows : {A : Type 0} (a : A) → decide [] a ≡ given a
unfolding decide
no_more_rows a = refl

-- ---- outcomes

pub outcome_refused : {A : Type 0} (a : Answer A) (bytes : List ℕ) (room n : ℕ) → a ≡ refused n
    → outcome_by a bytes room ≡ record { answer = refused n; reported = 0; output = zeros room }
unfolding outcome_by
outcome_refused a bytes room n e = ap (λ (b : Answer _). outcome_by b bytes room) e

pub outcome_given : {A : Type 0} (a : Answer A) (bytes : List ℕ) (room : ℕ) (x : A) → a ≡ given x
    → outcome_by a bytes room ≡ record { answer = given x; reported = length bytes; output = bytes ++ zeros (room - length bytes) }
unfolding outcome_by
outcome_given a bytes room x e = ap (λ (b : Answer _). outcome_by b bytes room) e

-- ---- the conditions, as the code tests them

pub or_true : (a b : Bool) → b ≡ true → (a || b) ≡ true
or_true true b e = refl
or_true false b e = e

pub isnt16 : (a : List ℕ) → (length a ≡ 16 → ⊥) → not16 a ≡ true
unfolding not16
isnt16 a h = ap not (ne_eqb (length a) 16 h)

pub misaligned : (a : List ℕ) → (length a % 16 ≡ 0 → ⊥) → unaligned a ≡ true
unfolding unaligned
misaligned a h = ap not (ne_eqb (length a % 16) 0 h)

pub is_beyond : (first count : ℕ) → limit < first + count → beyond first count ≡ true
unfolding beyond_within
is_beyond first count h = lt-ltb limit (first + count) h

-- a distance, tested at both ends of the range
abbrev pub outside : ℤ → Bool
outside d = lt_z d (neg_ℤ (pos limit)) || lt_z (pos limit) d

pub is_outside : (d : ℤ) → outside d ≡ too_far d
unfolding too_far_within
is_outside (pos n) = refl
is_outside (negsuc n) = or-false (ltb (limit - 1) n) ∙ sym (leb-suc-suc limit n)

-- with any limit
pub too_long_lem : (n : ℕ) (m : List ℕ) → longest_message_within n < length m → too_long_within n m ≡ true
unfolding too_long_within
too_long_lem n m h = lt-ltb (longest_message_within n) (length m) h

pub not_too_long : (m : List ℕ) → length m ≤ longest_message → too_long m ≡ false
unfolding too_long_within
not_too_long m h = le-ltb longest_message (length m) h

pub not_at_start : (r : RunRecord) → (r.first ≡ 0 → ⊥) → not_whole in_words r ≡ true
unfolding not_whole
not_at_start r h = rw (ne_eqb r.first 0 h)

pub has_no_block : (r : RunRecord) → r.first ≡ 0 → r.count ≡ 0 → not_whole in_words r ≡ true
unfolding not_whole
has_no_block r e h = rw (eq-eqb r.first 0 e, eq-eqb r.count 0 h)

pub is_whole : (r : RunRecord) → r.first ≡ 0 → (r.count ≡ 0 → ⊥) → not_whole in_words r ≡ false
unfolding not_whole
is_whole r e h = rw (eq-eqb r.first 0 e, ne_eqb r.count 0 h)

module _ (t : Finish) where
  pub isnt_tag : (a : List ℕ) → (length a ≡ t.tag_length → ⊥) → not_tag t a ≡ true
  unfolding not_tag
  isnt_tag a h = ap not (ne_eqb (length a) t.tag_length h)

  pub is_tag : (a : List ℕ) → length a ≡ t.tag_length → not_tag t a ≡ false
  unfolding not_tag
  is_tag a h = ap not (eq-eqb (length a) t.tag_length h)

  pub sealed_short : (s : List ℕ) → length s < 16 + overhead t → not_sealed t s ≡ true
  unfolding not_sealed_within
  sealed_short s h = rw (lt-ltb (length s) (16 + overhead t) h)

  -- with any limit
  pub sealed_long : (n : ℕ) (s : List ℕ) → longest_sealed_within n t < length s → not_sealed_within n t s ≡ true
  unfolding not_sealed_within
  sealed_long n s h = or_true (ltb (length s) (16 + overhead t)) _ (rw (lt-ltb (longest_sealed_within n t) (length s) h) refl)

  -- else the multiple of 16 decides
  pub sealed_rest : (s : List ℕ) → 16 + overhead t ≤ length s → length s ≤ longest_sealed t → not_sealed t s ≡ not (eqb ((length s - overhead t) % 16) 0)
  unfolding not_sealed_within
  sealed_rest s k l = rw (le-ltb (length s) (16 + overhead t) k, le-ltb (longest_sealed t) (length s) l)
