-- What holds of the segments at every moment, and how their records join.
use mathlib.Core.Path.{◌≡◌, refl, sym, ap, ap₂, subst, ◌∙◌}
use mathlib.Core.List.{List, [], ◌∷◌, ◌++◌, map, append_assoc, append-nil}
use mathlib.Core.Bool.{true, false}
use Prim.Native.Nat.{ℕ, zero, suc, ◌+◌, ◌≤◌, ◌<◌}
use native.Mathlib.Nat.{not-suc-le-zero}
use native.Mathlib.Omega.{arith}
use lib.ListN.{length, take, drop, length-append, take-append-drop}
use lib.Seq.{split_at, drop-cons}
use lib.Dec.{eqb}
use borrow.Author.Tests.{eq-eqb}
use Rattle.fips197.specs.Aes.{Key}
use Rattle.mode.specs.Mode.{Cipher, Lawful, RunRecord, in_words, pass, record_of}
use Rattle.mode.specs.Table.{beyond, any_beyond, any_beyond_within, apart, limit}
use Rattle.mode.specs.Calls.{blocks_of_run, joined, joined_onto, joined_all}
use Rattle.mode.specs.Parallel.{Work, source_of, iv_of, Fits, Run, Segment, pending, recorded, blocks_of_runs, runs_in, record_in, bytes_in, is_recorded, runs_of, bytes_of_segments, blocks_in, no_segment, segment, consecutive, AllRecorded, records_at}
use Rattle.blocks.specs.Bytes.{Block}
use Rattle.mode.proofs.Bytes.{AllBlocks, all_blocks_left}
use Rattle.mode.proofs.InWords.{record-append}
use Rattle.mode.proofs.Runs.{GoodRun, output_of, record_for, output_of_append, within}

-- ---- runs and blocks of segments

pub runs_of-append : (xs ys : List Segment) → runs_of (xs ++ ys) ≡ runs_of xs ++ runs_of ys
unfolding runs_of
runs_of-append [] ys = refl
runs_of-append (x ∷ xs) ys = ap (λ (r : List Run). runs_in x ++ r) (runs_of-append xs ys) ∙ sym (append_assoc (runs_in x) (runs_of xs) (runs_of ys))

pub blocks_of_runs-append : (x y : List Run) → blocks_of_runs (x ++ y) ≡ blocks_of_runs x ++ blocks_of_runs y
unfolding blocks_of_runs
blocks_of_runs-append [] y = refl
blocks_of_runs-append (r ∷ x) y = rw (blocks_of_runs-append x y) (sym (append_assoc (blocks_of_run r.kind r.bytes) (blocks_of_runs x) (blocks_of_runs y)))

pub blocks_in-cons : (x : Segment) (xs : List Segment) → blocks_in (x ∷ xs) ≡ blocks_of_runs (runs_in x) ++ blocks_in xs
unfolding blocks_in runs_of
blocks_in-cons x xs = blocks_of_runs-append (runs_in x) (runs_of xs)

pub blocks_in-append : (xs ys : List Segment) → blocks_in (xs ++ ys) ≡ blocks_in xs ++ blocks_in ys
unfolding blocks_in
blocks_in-append xs ys = ap blocks_of_runs (runs_of-append xs ys) ∙ blocks_of_runs-append (runs_of xs) (runs_of ys)

pub blocks_in-nil : blocks_in [] ≡ []
unfolding blocks_in runs_of blocks_of_runs
blocks_in-nil = refl

pub blocks_in-one : (x : Segment) → blocks_in (x ∷ []) ≡ blocks_of_runs (runs_in x)
blocks_in-one x = blocks_in-cons x [] ∙ ap (λ (b : List (List ℕ)). blocks_of_runs (runs_in x) ++ b) blocks_in-nil ∙ append-nil (blocks_of_runs (runs_in x))

-- k segments from segment i, and the rest
pub three : (xs : List Segment) (i k : ℕ) → take i xs ++ (take k (drop i xs) ++ drop k (drop i xs)) ≡ xs
three xs i k = ap (λ (r : List Segment). take i xs ++ r) (take-append-drop k (drop i xs)) ∙ take-append-drop i xs

pub blocks_three : (xs : List Segment) (i k : ℕ)
    → blocks_in (take i xs) ++ (blocks_in (take k (drop i xs)) ++ blocks_in (drop k (drop i xs))) ≡ blocks_in xs
blocks_three xs i k =
    ap (λ (b : List (List ℕ)). blocks_in (take i xs) ++ b) (sym (blocks_in-append (take k (drop i xs)) (drop k (drop i xs))))
    ∙ sym (blocks_in-append (take i xs) (take k (drop i xs) ++ drop k (drop i xs)))
    ∙ ap blocks_in (three xs i k)

pub one_there : (xs : List Segment) (i : ℕ) → i < length xs → take 1 (drop i xs) ≡ segment xs i ∷ []
one_there xs i h = ap (take 1) (drop-cons xs i no_segment h)

pub not_both : {A : Type 0} → false ≡ true → A
not_both e = absurd (let z : ◌≡◌ {A = ℕ} 0 1 = cc in omega arith)

-- past the end nothing is recorded
pub recorded_inside : (xs : List Segment) (i : ℕ) → is_recorded (segment xs i) ≡ true → i < length xs
unfolding is_recorded
recorded_inside [] i e = not_both e
recorded_inside (x ∷ xs) zero e = omega arith
recorded_inside (x ∷ xs) (suc i) e = let h : i < length xs = recorded_inside xs i e in omega arith

-- every one of these is recorded
abbrev pub Recs : List Segment → Type 0
Recs [] = Unit {0}
Recs (x ∷ xs) = (is_recorded x ≡ true) × Recs xs

-- ---- neighbours

shift_records : (x : Segment) (xs : List Segment) (i k : ℕ) → records_at (x ∷ xs) (consecutive (suc i) k) ≡ records_at xs (consecutive i k)
unfolding consecutive
shift_records x xs i zero = refl
shift_records x xs i (suc k) = ap (λ (r : List RunRecord). record_in (segment xs i) ∷ r) (shift_records x xs (suc i) k)

shift_recorded : (x : Segment) (xs : List Segment) (i k : ℕ) → AllRecorded (x ∷ xs) (consecutive (suc i) k) → AllRecorded xs (consecutive i k)
unfolding consecutive AllRecorded
shift_recorded x xs i zero h = tt
shift_recorded x xs i (suc k) h = (h.0, shift_recorded x xs (suc i) k h.1)

-- the records of neighbours are those of a part of the segments, and all are recorded
pub window : (xs : List Segment) (i k : ℕ) → AllRecorded xs (consecutive i k)
    → (records_at xs (consecutive i k) ≡ map record_in (take k (drop i xs))) × Recs (take k (drop i xs)) × (length (take k (drop i xs)) ≡ k)
unfolding consecutive AllRecorded
window xs i zero h = (refl, tt, refl)
window [] i (suc k) h = not_both (unfold is_recorded in h.0)
window (x ∷ xs) zero (suc k) h =
    let r = window xs zero k (shift_recorded x xs zero k h.1) in
    (ap (λ (t : List RunRecord). record_in x ∷ t) (shift_records x xs zero k ∙ r.0), (h.0, r.1), ap suc r.2)
window (x ∷ xs) (suc i) (suc k) h =
    let r = window xs i (suc k) (h.0, shift_recorded x xs (suc i) k h.1) in
    (ap (λ (t : List RunRecord). record_in (segment xs i) ∷ t) (shift_records x xs (suc i) k) ∙ r.0, r.1, r.2)

-- ---- what holds at every moment

module _ (c : Cipher) (key : List ℕ) (w : Work) where
  -- a segment that stands after the blocks `before`
  abbrev pub SoundAt : List (List ℕ) → Segment → Type 0
  SoundAt before (pending r) = GoodRun w before r
  SoundAt before (recorded rs r bytes) =
      (r ≡ record_for c key w before (blocks_of_runs rs)) × (bytes ≡ output_of c key w before (blocks_of_runs rs))

  abbrev pub Sound : List (List ℕ) → List Segment → Type 0
  Sound before [] = Unit {0}
  Sound before (x ∷ xs) = SoundAt before x × Sound (before ++ blocks_of_runs (runs_in x)) xs

  later : (before : List (List ℕ)) (x : Segment) (xs : List Segment) → (before ++ blocks_of_runs (runs_in x)) ++ blocks_in xs ≡ before ++ blocks_in (x ∷ xs)
  later before x xs = append_assoc before (blocks_of_runs (runs_in x)) (blocks_in xs) ∙ ap (λ (b : List (List ℕ)). before ++ b) (sym (blocks_in-cons x xs))

  none_before : (before : List (List ℕ)) → before ≡ before ++ blocks_in []
  none_before before = sym (ap (λ (b : List (List ℕ)). before ++ b) blocks_in-nil ∙ append-nil before)

  pub sound_split : (before : List (List ℕ)) (xs ys : List Segment) → Sound before (xs ++ ys) → Sound before xs × Sound (before ++ blocks_in xs) ys
  sound_split before [] ys h = (tt, subst (λ (b : List (List ℕ)). Sound b ys) (none_before before) h)
  sound_split before (x ∷ xs) ys h =
      let r = sound_split (before ++ blocks_of_runs (runs_in x)) xs ys h.1 in
      ((h.0, r.0), subst (λ (b : List (List ℕ)). Sound b ys) (later before x xs) r.1)

  pub sound_join : (before : List (List ℕ)) (xs ys : List Segment) → Sound before xs → Sound (before ++ blocks_in xs) ys → Sound before (xs ++ ys)
  sound_join before [] ys h k = subst (λ (b : List (List ℕ)). Sound b ys) (sym (none_before before)) k
  sound_join before (x ∷ xs) ys h k =
      (h.0, sound_join (before ++ blocks_of_runs (runs_in x)) xs ys h.1 (subst (λ (b : List (List ℕ)). Sound b ys) (sym (later before x xs)) k))

  -- segment i, where it stands
  pub sound_at : (xs : List Segment) (i : ℕ) → i < length xs → Sound [] xs → SoundAt (blocks_in (take i xs)) (segment xs i)
  sound_at xs i h s =
      (sound_split [] (take i xs) (segment xs i ∷ drop (suc i) xs) (subst (Sound []) (split_at xs i no_segment h) s)).1.0

  bound_of : (before : List (List ℕ)) (x : Segment) → SoundAt before x → is_recorded x ≡ true → length before + length (blocks_of_runs (runs_in x)) ≤ limit
      → beyond (record_in x).first (record_in x).count ≡ false
  unfolding is_recorded record_in runs_in record_of
  bound_of before (pending r) s e h = not_both e
  bound_of before (recorded rs r bytes) s e h = rw s.0 (within (length before) (length (blocks_of_runs rs)) h)

  within_one : (before : List (List ℕ)) (xs : List Segment) (i : ℕ) → Sound before xs → is_recorded (segment xs i) ≡ true
      → length before + length (blocks_in xs) ≤ limit → beyond (record_in (segment xs i)).first (record_in (segment xs i)).count ≡ false
  within_one before [] i s e h = not_both (unfold is_recorded in e)
  within_one before (x ∷ xs) zero s e h =
      bound_of before x s.0 e (omega (arith, ap length (blocks_in-cons x xs), length-append (blocks_of_runs (runs_in x)) (blocks_in xs)))
  within_one before (x ∷ xs) (suc i) s e h =
      within_one (before ++ blocks_of_runs (runs_in x)) xs i s.1 e
      (omega (arith, ap length (blocks_in-cons x xs), length-append (blocks_of_runs (runs_in x)) (blocks_in xs), length-append before (blocks_of_runs (runs_in x))))

  -- no record is beyond the limit
  pub none-beyond : (xs : List Segment) (is : List ℕ) → Sound [] xs → length (blocks_in xs) ≤ limit → AllRecorded xs is → any_beyond in_words (records_at xs is) ≡ false
  unfolding AllRecorded any_beyond_within
  none-beyond xs [] s h r = refl
  none-beyond xs (i ∷ is) s h r =
      let one : beyond (record_in (segment xs i)).first (record_in (segment xs i)).count ≡ false = within_one [] xs i s r.0 (omega arith) in
      rw one (none-beyond xs is s h r.1)

  -- neighbours are not apart
  pub not-apart : (before : List (List ℕ)) (xs : List Segment) → Sound before xs → Recs xs → apart in_words (map record_in xs) ≡ false
  unfolding apart record_in is_recorded runs_in record_of
  not-apart before [] s r = refl
  not-apart before (x ∷ []) s r = refl
  not-apart before (pending a ∷ y ∷ ys) s r = not_both r.0
  not-apart before (recorded rs a bytes ∷ pending b ∷ ys) s r = not_both r.1.0
  not-apart before (recorded rs a bytes ∷ recorded rs' b bytes' ∷ ys) s r =
      let e : eqb (a.first + a.count) b.first ≡ true =
      rw (s.0.0, s.1.0.0) (eq-eqb (length before + length (blocks_of_runs rs)) (length (before ++ blocks_of_runs rs)) (sym (length-append before (blocks_of_runs rs)))) in
      rw e (not-apart (before ++ blocks_of_runs rs) (recorded rs' b bytes' ∷ ys) s.1 r.1)

module _ (c : Cipher) (laws : Lawful c) (key : List ℕ) (kb : Key key) (w : Work) (ib : Block (iv_of w)) (fit : Fits w) where
  -- neighbours joined onto the record of what stands before them
  joined_onto_lem : (before x : List (List ℕ)) (ys : List Segment) → Sound c key w (before ++ x) ys → Recs ys → AllBlocks (x ++ blocks_in ys)
      → joined_onto in_words (record_for c key w before x) (map record_in ys) ≡ record_for c key w before (x ++ blocks_in ys)
  unfolding joined_onto is_recorded record_in runs_in
  joined_onto_lem before x [] s r h = ap (record_for c key w before) (none_before c key w x)
  joined_onto_lem before x (pending a ∷ ys) s r h = not_both r.0
  joined_onto_lem before x (recorded rs a bytes ∷ ys) s r h =
      ap (λ (t : RunRecord). joined_onto in_words t (map record_in ys))
      (ap (joined in_words (record_for c key w before x)) s.0.0
      ∙ sym (record-append c laws (source_of w) key kb (iv_of w) ib before x (blocks_of_runs rs) (all_blocks_left (x ++ blocks_of_runs rs) (blocks_in ys) h')))
      ∙ joined_onto_lem before (x ++ blocks_of_runs rs) ys (subst (λ (b : List (List ℕ)). Sound c key w b ys) (append_assoc before x (blocks_of_runs rs)) s.1) r.1 h'
      ∙ ap (record_for c key w before) (later c key w x (recorded rs a bytes) ys)
    where
      h' : AllBlocks ((x ++ blocks_of_runs rs) ++ blocks_in ys)
      h' = subst AllBlocks (sym (later c key w x (recorded rs a bytes) ys)) h

  -- THE FOLD: neighbours, one or more, join into the record of all their blocks
  pub joined_all_lem : (before : List (List ℕ)) (ys : List Segment) → 0 < length ys → Sound c key w before ys → Recs ys → AllBlocks (blocks_in ys)
      → joined_all in_words (map record_in ys) ≡ record_for c key w before (blocks_in ys)
  unfolding joined_all is_recorded record_in runs_in
  joined_all_lem before [] n s r h = absurd (not-suc-le-zero n)
  joined_all_lem before (pending a ∷ ys) n s r h = not_both r.0
  joined_all_lem before (recorded rs a bytes ∷ ys) n s r h =
      ap (λ (t : RunRecord). joined_onto in_words t (map record_in ys)) s.0.0
      ∙ joined_onto_lem before (blocks_of_runs rs) ys s.1 r.1 (subst AllBlocks (blocks_in-cons (recorded rs a bytes) ys) h)
      ∙ ap (record_for c key w before) (sym (blocks_in-cons (recorded rs a bytes) ys))

  -- what neighbours wrote, in order
  pub bytes_all : (before : List (List ℕ)) (ys : List Segment) → Sound c key w before ys → Recs ys → bytes_of_segments ys ≡ output_of c key w before (blocks_in ys)
  unfolding bytes_of_segments bytes_in is_recorded runs_in
  bytes_all before [] s r = sym (ap (output_of c key w before) blocks_in-nil ∙ (unfold output_of pass in refl))
  bytes_all before (pending a ∷ ys) s r = not_both r.0
  bytes_all before (recorded rs a bytes ∷ ys) s r =
      ap₂ (λ (x y : List ℕ). x ++ y) s.0.1 (bytes_all (before ++ blocks_of_runs rs) ys s.1 r.1)
      ∙ sym (output_of_append c laws key kb.size w fit before (blocks_of_runs rs) (blocks_in ys))
      ∙ ap (output_of c key w before) (sym (blocks_in-cons (recorded rs a bytes) ys))
