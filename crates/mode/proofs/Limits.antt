-- A lower limit (ticket P7): it makes one row of a call hold of more, and leaves the others as they are.
use mathlib.Core.Path.{◌≡◌, refl, sym, ap, ◌∙◌}
use mathlib.Core.Logic.{◌⊎◌, inl, inr}
use mathlib.Core.List.{List, [], ◌∷◌, ◌++◌}
use mathlib.Core.Bool.{Bool, true, false, cond, not, ◌||◌}
use Prim.Native.Nat.{ℕ, ◌+◌, ◌-◌, ◌%◌, ◌≤◌, ◌<◌}
use lib.ListN.{length}
use lib.IntN.{ℤ, nat_abs}
use lib.Dec.{eqb, ltb}
use native.Mathlib.Omega.{arith}
use borrow.Author.Tests.{ltb-true, ltb-false, le-ltb}
use Rattle.fips197.proofs.Keys.{is_key}
use Rattle.mode.specs.Mode.{Cipher, Finish, overhead, RunRecord, in_words, blocks_of}
use Rattle.mode.specs.Table.{Answer, refused, decide, NoneHolds, limit, not_key, not16, unaligned, not_tag, longest_message_within, longest_sealed_within, too_long_within, not_sealed, not_sealed_within, beyond_within, any_beyond, any_beyond_within, too_far_within}
use Rattle.mode.specs.Calls.{outcome_by, blocks_of_run, unaligned_run, seal, open_sealed, open_rows_within, seal_run, check_run, join_two, join_list, close, test, jump_mask}
use Rattle.mode.specs.Demands.{SameOr, SameOrInto, LowerLimit, LowerLimits}
use Rattle.mode.proofs.Rows.{or_true, too_long_lem, sealed_long}
use Rattle.mode.proofs.Passed.{or-false}
use Rattle.mode.proofs.Runs.{is16}
use Rattle.mode.proofs.Decisions.{refuses, outcome_refuses}

-- ---- rows

-- What a lower limit makes of a condition: nothing, or it holds of what is longer.
abbrev Widened : Type 0 → Bool → Bool → Type 0
Widened longer lower now = (lower ≡ now) ⊎ (longer × (lower ≡ true))

-- one row with such a condition, among others
widened_row : {A : Type 0} (above below : List (ℕ × Bool)) (k : ℕ) (lower now : Bool) (a : A) (longer : Type 0) → Widened longer lower now
    → SameOr longer k (decide (above ++ (k, lower) ∷ below) a) (decide (above ++ (k, now) ∷ below) a)
unfolding decide
widened_row [] below k lower now a longer (inl e) = inl (ap (λ (b : Bool). cond b (refused k) (decide below a)) e)
widened_row [] below k lower now a longer (inr h) = inr (h.0, rw h.1 refl)
widened_row {A} (row ∷ above) below k lower now a longer h = by row.1 (widened_row above below k lower now a longer h)
  where
    by : {d e : Answer A} (t : Bool) → SameOr longer k d e → SameOr longer k (cond t (refused row.0) d) (cond t (refused row.0) e)
    by true same = inl refl
    by false same = same

into : {A : Type 0} (longer : Type 0) (k room : ℕ) (d e : Answer A) (bytes : List ℕ) → SameOr longer k d e → SameOrInto longer k room (outcome_by d bytes room) (outcome_by e bytes room)
into {A} longer k room d e bytes (inl p) = inl (ap (λ (x : Answer A). outcome_by x bytes room) p)
into longer k room d e bytes (inr h) = inr (h.0, outcome_refuses d bytes room k h.1)

-- ---- conditions

-- more than so many
more : (n m x : ℕ) → n ≤ m → Widened (n < x) (ltb n x) (ltb m x)
more n m x h = by (ltb n x) refl
  where
    by : (t : Bool) → ltb n x ≡ t → Widened (n < x) (ltb n x) (ltb m x)
    by true e = inr (ltb-true n x e, e)
    by false e = let l : x ≤ m = let k = ltb-false n x e in omega (arith, k, h) in inl (e ∙ sym (le-ltb m x l))

-- that, or something else
more_among : (longer : Type 0) (a b lower now : Bool) → Widened longer lower now → Widened longer (a || (lower || b)) (a || (now || b))
more_among longer a b lower now (inl e) = inl (ap (λ (x : Bool). a || (x || b)) e)
more_among longer a b lower now (inr h) = inr (h.0, or_true a (lower || b) (rw h.1 refl))

module _ (n : ℕ) (h : n ≤ limit) where
  message_longer : (message : List ℕ) → Widened (longest_message_within n < length message) (too_long_within n message) (too_long_within limit message)
  unfolding too_long_within
  message_longer message = more (longest_message_within n) (longest_message_within limit) (length message) (omega arith)

  sealed_longer : (t : Finish) (sealed : List ℕ) → Widened (longest_sealed_within n t < length sealed) (not_sealed_within n t sealed) (not_sealed t sealed)
  unfolding not_sealed_within
  sealed_longer t sealed =
      more_among _ (ltb (length sealed) (16 + overhead t)) (not (eqb ((length sealed - overhead t) % 16) 0)) _ _
      (more (longest_sealed_within n t) (longest_sealed_within limit t) (length sealed) (omega arith))

  far : (first count : ℕ) → Widened (n < first + count) (beyond_within n first count) (beyond_within limit first count)
  unfolding beyond_within
  far first count = more n limit (first + count) h

  further : (distance : ℤ) → Widened (n < nat_abs distance) (too_far_within n distance) (too_far_within limit distance)
  unfolding too_far_within
  further distance = more n limit (nat_abs distance) h

  none_far : (rs : List RunRecord) → any_beyond_within n in_words rs ≡ false → any_beyond in_words rs ≡ false
  unfolding any_beyond_within beyond_within
  none_far [] e = refl
  none_far (r ∷ rs) e =
      let u = or-false (ltb n (r.first + r.count)) (any_beyond_within n in_words rs) e in
      let l : r.first + r.count ≤ limit = let k = ltb-false n (r.first + r.count) u.0 in omega (arith, k, h) in
      rw (le-ltb limit (r.first + r.count) l) (none_far rs u.1)

  any_far : (rs : List RunRecord) → Widened (any_beyond_within n in_words rs ≡ true) (any_beyond_within n in_words rs) (any_beyond in_words rs)
  any_far rs = by (any_beyond_within n in_words rs) refl
    where
      by : (t : Bool) → any_beyond_within n in_words rs ≡ t → Widened (any_beyond_within n in_words rs ≡ true) (any_beyond_within n in_words rs) (any_beyond in_words rs)
      by true e = inr (e, e)
      by false e = inl (e ∙ sym (none_far rs e))

-- ---- the calls

-- such a row is the one that a call gets, where the rows above it pass
refused_row : {A : Type 0} (above below : List (ℕ × Bool)) (k : ℕ) (b : Bool) (a : A) → NoneHolds above → b ≡ true → decide (above ++ (k, b) ∷ below) a ≡ refused k
refused_row above below k b a h e = rw e (refuses above below a k h)

lower_limit : (c : Cipher) (n : ℕ) → n ≤ limit → LowerLimit c n
unfolding seal open_sealed open_rows_within seal_run check_run join_two join_list close test jump_mask
lower_limit c n h =
    record {
      of_seal = λ t key iv message room. into _ 3 room _ _ _ (widened_row ((1, not_key key) ∷ (2, not16 iv) ∷ []) _ 3 _ _ _ _ (message_longer n h message));
      of_open = λ t key sealed room. into _ 3 room _ _ _ (widened_row ((1, not_key key) ∷ []) _ 3 _ _ _ _ (sealed_longer n h t sealed));
      of_seal_run = λ key iv first kind bytes room.
          into _ 4 room _ _ _
          (widened_row ((1, not_key key) ∷ (2, not16 iv) ∷ (3, unaligned_run kind bytes) ∷ []) _ 4 _ _ _ _ (far n h first (length (blocks_of_run kind bytes))));
      of_check_run = λ key iv first bytes.
          widened_row ((1, not_key key) ∷ (2, not16 iv) ∷ (3, unaligned bytes) ∷ []) _ 4 _ _ _ _ (far n h first (length (blocks_of bytes)));
      of_join = λ l r. widened_row [] _ 4 _ _ _ _ (any_far n h (l ∷ r ∷ []));
      of_join_list = λ rs. widened_row [] _ 4 _ _ _ _ (any_far n h rs);
      of_close = λ t key iv r. widened_row ((1, not_key key) ∷ (2, not16 iv) ∷ []) _ 4 _ _ _ _ (far n h r.first r.count);
      of_test = λ t key iv r tag. widened_row ((1, not_key key) ∷ (2, not16 iv) ∷ (3, not_tag t tag) ∷ []) _ 4 _ _ _ _ (far n h r.first r.count);
      of_jump = λ mask distance room. into _ 4 room _ _ _ (widened_row ((3, not16 mask) ∷ []) _ 4 _ _ _ _ (further n h distance));
      longer_record = λ t key sealed room hk l.
          outcome_refuses _ _ room 3 (refused_row ((1, not_key key) ∷ []) _ 3 _ _ (is_key key hk, tt) (sealed_long t n sealed l));
      longer_message = λ t key iv message room hk hi l.
          outcome_refuses _ _ room 3 (refused_row ((1, not_key key) ∷ (2, not16 iv) ∷ []) _ 3 _ _ (is_key key hk, (is16 iv hi, tt)) (too_long_lem n message l));
    }

pub lower_limits : (c : Cipher) → LowerLimits c
lower_limits c n h = lower_limit c n (omega (arith, h))
