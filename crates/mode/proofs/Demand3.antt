-- DEMAND 3, proved: `demand3`, at the end. An induction over the calls: what holds at every moment (`Inv`) holds of the empty rack, and each
-- call that is allowed is answered as document 01 says and leaves a rack of which it holds.
use mathlib.Core.Path.{◌≡◌, refl, sym, ap, ap₂, subst, ◌∙◌}
use mathlib.Core.Logic.{◌⊎◌, inl, inr, ◌↔◌}
use mathlib.Core.List.{List, [], ◌∷◌, ◌++◌, map, append-nil}
use mathlib.Core.Bool.{Bool, true, false, cond, not}
use Prim.Native.Nat.{ℕ, zero, suc, ◌+◌, ◌*◌, ◌-◌, ◌/◌, ◌%◌, ◌≤◌, ◌<◌}
use native.Mathlib.Omega.{arith}
use lib.ListN.{length, take, drop, set, replicate, length-append, length-drop}
use lib.Seq.{split_at, set_split, take-append_seam, length-take-le}
use lib.Dec.{leb}
use borrow.Author.Tests.{ne_eqb, le-leb, lt-leb}
use Rattle.blocks.specs.Bytes.{Bytes, Block, same, concat}
use Rattle.mode.specs.Mode.{Cipher, Lawful, Finish, overhead, RunRecord, in_words, pass, unbroken, unbroken_tag, record_of, blocks_of, padded, cipher_part, tag_part, UnbrokenCheck}
use Rattle.mode.specs.Table.{Answer, refused, given, decide, beyond, any_beyond, any_beyond_within, apart, none, not_whole, zero_mask, limit}
use Rattle.mode.specs.Calls.{Kind, middle, last, blocks_of_run, unaligned_run, Outcome, outcome_by, joined_onto, joined_all, join_two, join_list, closing_tag, close, test, calls_of}
use Rattle.mode.specs.Parallel.{Work, sealing, checking, source_of, finish_of, iv_of, text_of, last_kind, all_blocks, Fits, Cut, Setting, WellFormed, Run, runs_from, Segment, pending, recorded, blocks_of_runs, runs_in, record_in, bytes_in, is_recorded, runs_of, bytes_of_segments, blocks_in, no_segment, segment, Call, run_at, join_pair, join_many, consecutive, AllRecorded, records_at, Allowed, merge_by, record_by, head_or, first_run, empties, start, room_of, outcome_of_run, run_outcome, answer_of, after, after_all, EachCall}
use Rattle.mode.specs.Demands.{NonzeroMask, whole, whole_tag, record_of_segments, ciphertext_of_segment, ExpectedOfRun, ExpectedOfJoin, Expected, TestedAs, Whole, Demand3}
use Rattle.fips197.proofs.Keys.{is_key}
use Rattle.mode.proofs.Decisions.{outcome_gives, outcome_refuses}
use Rattle.mode.proofs.Rows.{is_tag}
use Rattle.mode.proofs.Laws.{AllLong, mask_there}
use Rattle.mode.proofs.Same.{same_true, same_self}
use Rattle.mode.proofs.Bytes.{AllBlocks, all_blocks-long, all_blocks_left, all_blocks_right, good_blocks, run_blocks}
use Rattle.mode.proofs.InWords.{record_bytes}
use Rattle.mode.proofs.Blocks.{blocks_of-append, padded-append, count_middle, count_last, aligned}
use Rattle.mode.proofs.Runs.{is16, within, iv-long, Suits, GoodRun, output_of, record_for, part, unbroken-output, run_outcome_lem}
use Rattle.mode.proofs.Segments.{blocks_in-cons, blocks_in-append, blocks_in-one, three, blocks_three, one_there, recorded_inside, Recs, window, SoundAt, Sound, sound_split, sound_join, sound_at, none-beyond, not-apart, joined_all_lem, bytes_all}

-- ---- all blocks of a setting

pub cipher-length : (t : Finish) (sealed : List ℕ) → overhead t ≤ length sealed → length (cipher_part t sealed) ≡ length sealed - overhead t
unfolding cipher_part
cipher-length t sealed h = length-take-le (length sealed - overhead t) (drop 16 sealed) (rw (length-drop 16 sealed) (omega arith))

good_work : (w : Work) → Fits w → Bytes (text_of w) → AllBlocks (all_blocks w)
unfolding all_blocks last_kind text_of Fits blocks_of_run unaligned_run
good_work (sealing t iv message) f h = run_blocks last message h refl
good_work (checking t sealed) f h =
    let e : length (cipher_part t sealed) % 16 ≡ 0 = ap (λ (n : ℕ). n % 16) (cipher-length t sealed (omega (arith, f.0))) ∙ omega arith in
    good_blocks (cipher_part t sealed) e h

in_limit : (w : Work) → Fits w → length (all_blocks w) ≤ limit
unfolding all_blocks last_kind text_of Fits blocks_of_run
in_limit (sealing t iv message) h = rw (count_last message) (omega arith)
in_limit (checking t sealed) h = rw (count_middle (cipher_part t sealed), cipher-length t sealed (omega (arith, h.0))) (omega arith)

some_block : (w : Work) → Fits w → 0 < length (all_blocks w)
unfolding all_blocks last_kind text_of Fits blocks_of_run
some_block (sealing t iv message) h = rw (count_last message) (omega arith)
some_block (checking t sealed) h = rw (count_middle (cipher_part t sealed), cipher-length t sealed (omega (arith, h.0))) (omega arith)

-- ---- the rack at the start

run_append : (kind : Kind) (a b : List ℕ) → length a % 16 ≡ 0 → blocks_of_run kind (a ++ b) ≡ blocks_of a ++ blocks_of_run kind b
unfolding blocks_of_run
run_append middle a b e = blocks_of-append a b e
run_append last a b e = ap blocks_of (padded-append a b e) ∙ blocks_of-append a (padded b) e

tail_cut : (kind : Kind) (p q : List ℕ) (ps : List (List ℕ)) → Cut kind (p ∷ q ∷ ps) → Cut kind (q ∷ ps)
unfolding Cut
tail_cut middle p q ps h = h.1
tail_cut last p q ps h = h.1

head_cut : (kind : Kind) (p q : List ℕ) (ps : List (List ℕ)) → Cut kind (p ∷ q ∷ ps) → length p % 16 ≡ 0
unfolding Cut
head_cut middle p q ps h = h.0
head_cut last p q ps h = h.0

start-blocks : (kind : Kind) (n : ℕ) (ps : List (List ℕ)) → Cut kind ps → blocks_of_runs (runs_of (empties (runs_from kind n ps))) ≡ blocks_of_run kind (concat ps)
unfolding Cut blocks_of_runs runs_of empties runs_from concat runs_in blocks_of_run
start-blocks kind n [] h = absurd h
start-blocks kind n (p ∷ []) h = append-nil (blocks_of_run kind p) ∙ ap (blocks_of_run kind) (sym (append-nil p))
start-blocks kind n (p ∷ q ∷ ps) h =
    ap (λ (y : List (List ℕ)). blocks_of p ++ y) (start-blocks kind (n + length p / 16) (q ∷ ps) (tail_cut kind p q ps h))
    ∙ sym (run_append kind p (concat (q ∷ ps)) (head_cut kind p q ps h))

suits_last : (w : Work) → Suits w (last_kind w)
unfolding Suits last_kind
suits_last (sealing t iv message) = tt
suits_last (checking t sealed) = refl

suits_middle : (w : Work) → Suits w middle
unfolding Suits
suits_middle (sealing t iv message) = tt
suits_middle (checking t sealed) = refl

start_sound : (c : Cipher) (key : List ℕ) (w : Work) (kind : Kind) → Suits w kind → (before : List (List ℕ)) (n : ℕ) (ps : List (List ℕ))
    → n ≡ length before → Cut kind ps → Sound c key w before (empties (runs_from kind n ps))
unfolding Cut empties runs_from runs_in blocks_of_runs
start_sound c key w kind su before n [] e h = absurd h
start_sound c key w kind su before n (p ∷ []) e h = (record { starts = e; is_aligned = one kind h; suits = su }, tt)
  where
    one : (kind : Kind) → Cut kind (p ∷ []) → unaligned_run kind p ≡ false
    one middle h = unfold unaligned_run in aligned p h
    one last h = unfold unaligned_run in refl
start_sound c key w kind su before n (p ∷ q ∷ ps) e h = (
  record { starts = e; is_aligned = (unfold unaligned_run in aligned p (head_cut kind p q ps h)); suits = suits_middle w },
  start_sound c key w kind su (before ++ (blocks_of_run middle p ++ [])) (n + length p / 16) (q ∷ ps) next (tail_cut kind p q ps h),
)
  where
    next : n + length p / 16 ≡ length (before ++ (blocks_of_run middle p ++ []))
    next =
        unfold blocks_of_run in
        rw (append-nil (blocks_of p), length-append before (blocks_of p), count_middle p, e) refl

-- ---- each call

pending_run : (x : Segment) → is_recorded x ≡ false → (r : Run) × (x ≡ pending r)
unfolding is_recorded
pending_run (pending r) e = (r, refl)
pending_run (recorded rs r bytes) e = absurd (let z : ◌≡◌ {A = ℕ} 0 1 = cc in omega arith)

length-consecutive : (i k : ℕ) → length (consecutive i k) ≡ k
unfolding consecutive
length-consecutive i zero = refl
length-consecutive i (suc k) = ap suc (length-consecutive (suc i) k)

first_of : (i k : ℕ) → head_or 0 (consecutive i (suc k)) ≡ i
unfolding head_or consecutive
first_of i k = refl

-- two places that are consecutive
pair_consecutive : (i j first k : ℕ) → ◌≡◌ {A = List ℕ} (i ∷ j ∷ []) (consecutive first (suc k)) → (i ≡ first) × (1 ≡ k) × (j ≡ suc i)
unfolding consecutive
pair_consecutive i j first zero e = absurd (let z : ◌≡◌ {A = ℕ} 2 1 = ap length e in omega arith)
pair_consecutive i j first (suc zero) e = ((cc), refl, (cc))
pair_consecutive i j first (suc (suc k)) e =
    absurd (let z : ◌≡◌ {A = ℕ} 2 (suc (suc (suc k))) = ap length e ∙ ap (λ (n : ℕ). suc (suc n)) (length-consecutive (suc (suc first)) (suc k)) in omega arith)

-- a row that is not met is passed over; the last one decides
last_row : (t : Bool) (n : ℕ) → (decide {A = Unit {0}} ((n, not t) ∷ []) tt ≡ given tt) ↔ (t ≡ true)
unfolding decide
last_row true n = (λ e. refl, λ e. refl)
last_row false n = (λ e. absurd (let z : ◌≡◌ {A = ℕ} 0 1 = cc in omega arith), λ e. absurd (let z : ◌≡◌ {A = ℕ} 0 1 = cc in omega arith))

-- what holds at every moment: each segment is sound, and together they have all blocks
pub record Inv (c : Cipher) (s : Setting) (xs : List Segment) : Type 0 where
  pub sound : Sound c s.key s.work [] xs
  pub blocks_are : blocks_in xs ≡ all_blocks s.work

module _ (c : Cipher) (laws : Lawful c) (s : Setting) (wf : WellFormed s) where
  abbrev w : Work
  w = s.work

  abbrev key : List ℕ
  key = s.key

  pub start_inv : Inv c s (start s)
  unfolding start
  start_inv =
      record {
        sound = start_sound c key w (last_kind w) (suits_last w) [] 0 s.pieces refl wf.cut;
        blocks_are = (unfold blocks_in all_blocks in (start-blocks (last_kind w) 0 s.pieces wf.cut ∙ ap (blocks_of_run (last_kind w)) wf.pieces_are));
      }

  iv-block : Block (iv_of s.work)
  iv-block = record { long = iv-long s.work wf.fits; bytes = wf.iv_bytes }

  all_good : AllBlocks (all_blocks s.work)
  all_good = good_work s.work wf.fits wf.text_bytes

  module _ (xs : List Segment) (inv : Inv c s xs) where
    blocks_good : AllBlocks (blocks_in xs)
    blocks_good = subst AllBlocks (sym inv.blocks_are) all_good

    blocks_fit : length (blocks_in xs) ≤ limit
    blocks_fit = rw inv.blocks_are (in_limit w wf.fits)

    -- the part of the unbroken ciphertext that has a segment's blocks is what a pass over them there writes
    ciphertext_there : (i : ℕ) → ciphertext_of_segment c s xs i ≡ output_of c key w (blocks_in (take i xs)) (blocks_in (take 1 (drop i xs)))
    unfolding ciphertext_of_segment whole
    ciphertext_there i =
        let e : blocks_in (take i xs) ++ (blocks_in (take 1 (drop i xs)) ++ blocks_in (drop 1 (drop i xs))) ≡ all_blocks w = blocks_three xs i 1 ∙ inv.blocks_are in
        subst
        (λ (bs : List (List ℕ)).
        take (16 * length (blocks_in (take 1 (drop i xs)))) (drop (16 * length (blocks_in (take i xs))) (unbroken c (source_of w) key (iv_of w) bs).output)
        ≡ output_of c key w (blocks_in (take i xs)) (blocks_in (take 1 (drop i xs)))) e
        (part c laws key wf.key_is.size w wf.fits (blocks_in (take i xs)) (blocks_in (take 1 (drop i xs))) (blocks_in (drop 1 (drop i xs)))
        (subst AllLong (sym e) (all_blocks-long (all_blocks w) all_good)))

    blocks-one : (i : ℕ) → i < length xs → blocks_in (take 1 (drop i xs)) ≡ blocks_of_runs (runs_in (segment xs i))
    blocks-one i h = ap blocks_in (one_there xs i h) ∙ blocks_in-one (segment xs i)

    -- what a run is answered: by whether the start mask is zero, and whether there is room
    abbrev pub answer_by : ℕ → Bool → Bool → Answer RunRecord
    answer_by i zeroed fits = cond zeroed (refused 10) (cond fits (given (record_of_segments c s xs i 1)) (refused 5))

    abbrev enough : ℕ → ℕ → Bool
    enough i room = leb (length (ciphertext_of_segment c s xs i)) (room_of w room)

    pub run_is : (i room : ℕ) → i < length xs → is_recorded (segment xs i) ≡ false
        → run_outcome (calls_of c) s xs i room
        ≡ outcome_by (answer_by i (zero_mask c key (iv_of w)) (enough i room))
        (ciphertext_of_segment c s xs i) (room_of w room)
    unfolding run_outcome record_of_segments first_run runs_in
    run_is i room h e =
        ap (λ (x : Segment). outcome_of_run (calls_of c) key w (first_run (runs_in x)) room) is
        ∙ run_outcome_lem c laws key wf.key_is.size w wf.fits before r room good bound
        ∙ ap₂ (λ (o : List ℕ) (a : RunRecord). outcome_by (cond (zero_mask c key (iv_of w)) (refused 10) (cond (leb (length o) (room_of w room)) (given a) (refused 5))) o (room_of w room))
        (ap (output_of c key w before) (sym these) ∙ sym (ciphertext_there i)) (ap (record_for c key w before) (sym these))
      where
        before : List (List ℕ)
        before = blocks_in (take i xs)

        r : Run
        r = (pending_run (segment xs i) e).0

        is : segment xs i ≡ pending (pending_run (segment xs i) e).0
        is = (pending_run (segment xs i) e).1

        good : GoodRun w (blocks_in (take i xs)) (pending_run (segment xs i) e).0
        good = subst (SoundAt c key w (blocks_in (take i xs))) is (sound_at c key w xs i h inv.sound)

        these : blocks_in (take 1 (drop i xs)) ≡ blocks_of_run r.kind r.bytes
        these =
            blocks-one i h ∙ ap (λ (x : Segment). blocks_of_runs (runs_in x)) is
            ∙ (unfold blocks_of_runs in append-nil (blocks_of_run r.kind r.bytes))

        bound : length (blocks_in (take i xs)) + length (blocks_of_run r.kind r.bytes) ≤ limit
        bound =
            let t : length (blocks_in (take 1 (drop i xs))) ≡ length (blocks_of_run r.kind r.bytes) = ap length these in
            omega (
              arith,
              blocks_fit,
              ap length (blocks_three xs i 1),
              length-append (blocks_in (take i xs)) (blocks_in (take 1 (drop i xs)) ++ blocks_in (drop 1 (drop i xs))),
              length-append (blocks_in (take 1 (drop i xs))) (blocks_in (drop 1 (drop i xs))),
            )

    -- where it is not
    run_masked : NonzeroMask c key (iv_of w) → (i room : ℕ) → i < length xs → is_recorded (segment xs i) ≡ false
        → run_outcome (calls_of c) s xs i room ≡ outcome_by (answer_by i false (enough i room)) (ciphertext_of_segment c s xs i) (room_of w room)
    run_masked nz i room h e =
        run_is i room h e
        ∙ ap (λ (z : Bool). outcome_by (answer_by i z (enough i room)) (ciphertext_of_segment c s xs i) (room_of w room)) nz

    run_expected : NonzeroMask c key (iv_of w) → (i room : ℕ) → i < length xs → is_recorded (segment xs i) ≡ false → ExpectedOfRun c (calls_of c) s xs i room
    run_expected nz i room h e =
        record {
          with_room = λ l. rw (run_masked nz i room h e) (outcome_gives _ (record_of_segments c s xs i 1) text (room_of w room) (ap (answer_by i false) (le-leb (length text) (room_of w room) l)));
          too_short = λ l. rw (run_masked nz i room h e) (outcome_refuses _ text (room_of w room) 5 (ap (answer_by i false) (lt-leb (length text) (room_of w room) l)));
        }
      where
        text : List ℕ
        text = ciphertext_of_segment c s xs i

    put_inv : (i : ℕ) (r : RunRecord) (bytes : List ℕ) → i < length xs → r ≡ record_of_segments c s xs i 1 → bytes ≡ ciphertext_of_segment c s xs i
        → Inv c s (set xs i (recorded (runs_in (segment xs i)) r bytes))
    unfolding record_of_segments runs_in
    put_inv i r bytes h er eb =
        subst (Inv c s) (sym (set_split xs i new h))
        (record {
          sound = sound_join c key w [] (take i xs) (new ∷ drop (suc i) xs) halves.0 (new_sound, halves.1.1);
          blocks_are =
              blocks_in-append (take i xs) (new ∷ drop (suc i) xs)
              ∙ ap (λ (b : List (List ℕ)). blocks_in (take i xs) ++ b)
              (blocks_in-cons new (drop (suc i) xs) ∙ sym (blocks_in-cons (segment xs i) (drop (suc i) xs)))
              ∙ sym (blocks_in-append (take i xs) (segment xs i ∷ drop (suc i) xs))
              ∙ ap blocks_in (sym (split_at xs i no_segment h)) ∙ inv.blocks_are;
        })
      where
        new : Segment
        new = recorded (runs_in (segment xs i)) r bytes

        halves : Sound c key w [] (take i xs) × Sound c key w (blocks_in (take i xs)) (segment xs i ∷ drop (suc i) xs)
        halves = sound_split c key w [] (take i xs) (segment xs i ∷ drop (suc i) xs) (subst (Sound c key w []) (split_at xs i no_segment h) inv.sound)

        new_sound : SoundAt c key w (blocks_in (take i xs)) (recorded (runs_in (segment xs i)) r bytes)
        new_sound = (
          er ∙ ap (record_for c key w (blocks_in (take i xs))) (blocks-one i h),
          eb ∙ ciphertext_there i ∙ ap (output_of c key w (blocks_in (take i xs))) (blocks-one i h),
        )

    run_inv : (i : ℕ) (room : ℕ) → i < length xs → (o : Outcome RunRecord) (t : Bool)
        → o ≡ outcome_by (answer_by i false t) (ciphertext_of_segment c s xs i) room → Inv c s (record_by o.answer o xs i)
    run_inv i room h o true e =
        subst (λ (o : Outcome RunRecord). Inv c s (record_by o.answer o xs i)) (sym e)
        (unfold record_by outcome_by in
        put_inv i (record_of_segments c s xs i 1) (take (length (ciphertext_of_segment c s xs i)) (ciphertext_of_segment c s xs i ++ replicate (room - length (ciphertext_of_segment c s xs i)) 0)) h refl
        (take-append_seam (ciphertext_of_segment c s xs i) (replicate (room - length (ciphertext_of_segment c s xs i)) 0)))
    run_inv i room h o false e =
        subst (λ (o : Outcome RunRecord). Inv c s (record_by o.answer o xs i)) (sym e) (unfold record_by outcome_by in inv)

    -- neighbours: none beyond the limit, not apart, and joined they are the record of all their blocks
    neighbours : (i k : ℕ) → AllRecorded xs (consecutive i (suc k))
        → (any_beyond in_words (records_at xs (consecutive i (suc k))) ≡ false) × (apart in_words (records_at xs (consecutive i (suc k))) ≡ false)
        × (joined_all in_words (records_at xs (consecutive i (suc k))) ≡ record_of_segments c s xs i (suc k))
    unfolding record_of_segments
    neighbours i k h = (
      none-beyond c key w xs (consecutive i (suc k)) inv.sound blocks_fit h,
      ap (apart in_words) win.0 ∙ not-apart c key w (blocks_in (take i xs)) these these_sound win.1,
      ap (joined_all in_words) win.0
          ∙ joined_all_lem c laws key wf.key_is w iv-block wf.fits (blocks_in (take i xs)) these (rw win.2 (omega arith)) these_sound win.1 these_good,
    )
      where
        these : List Segment
        these = take (suc k) (drop i xs)

        win : (records_at xs (consecutive i (suc k)) ≡ map record_in (take (suc k) (drop i xs))) × Recs (take (suc k) (drop i xs)) × (length (take (suc k) (drop i xs)) ≡ suc k)
        win = window xs i (suc k) h

        these_sound : Sound c key w (blocks_in (take i xs)) (take (suc k) (drop i xs))
        these_sound =
            (sound_split c key w (blocks_in (take i xs)) (take (suc k) (drop i xs)) (drop (suc k) (drop i xs))
            (sound_split c key w [] (take i xs) (take (suc k) (drop i xs) ++ drop (suc k) (drop i xs)) (subst (Sound c key w []) (sym (three xs i (suc k))) inv.sound)).1).0

        these_good : AllBlocks (blocks_in (take (suc k) (drop i xs)))
        these_good =
            all_blocks_left (blocks_in (take (suc k) (drop i xs))) (blocks_in (drop (suc k) (drop i xs)))
            (all_blocks_right (blocks_in (take i xs)) (blocks_in (take (suc k) (drop i xs)) ++ blocks_in (drop (suc k) (drop i xs)))
            (subst AllBlocks (sym (blocks_three xs i (suc k))) blocks_good))

    merge_inv : (i k : ℕ) (a : Answer RunRecord) → AllRecorded xs (consecutive i (suc k)) → a ≡ given (record_of_segments c s xs i (suc k)) → Inv c s (merge_by a xs i (suc k))
    unfolding merge_by runs_in blocks_in record_of_segments
    merge_inv i k a h e =
        subst (λ (a : Answer RunRecord). Inv c s (merge_by a xs i (suc k))) (sym e)
        (record {
          sound = sound_join c key w [] (take i xs) (new ∷ rest) outer.0 (new_sound, new_rest);
          blocks_are =
              blocks_in-append (take i xs) (new ∷ rest)
              ∙ ap (λ (b : List (List ℕ)). blocks_in (take i xs) ++ b) (blocks_in-cons new rest)
              ∙ blocks_three xs i (suc k) ∙ inv.blocks_are;
        })
      where
        rest : List Segment
        rest = drop (suc k) (drop i xs)

        new : Segment
        new = recorded (runs_of (take (suc k) (drop i xs))) (record_of_segments c s xs i (suc k)) (bytes_of_segments (take (suc k) (drop i xs)))

        outer : Sound c key w [] (take i xs) × Sound c key w (blocks_in (take i xs)) (take (suc k) (drop i xs) ++ drop (suc k) (drop i xs))
        outer = sound_split c key w [] (take i xs) (take (suc k) (drop i xs) ++ drop (suc k) (drop i xs)) (subst (Sound c key w []) (sym (three xs i (suc k))) inv.sound)

        inner : Sound c key w (blocks_in (take i xs)) (take (suc k) (drop i xs)) × Sound c key w (blocks_in (take i xs) ++ blocks_in (take (suc k) (drop i xs))) (drop (suc k) (drop i xs))
        inner = sound_split c key w (blocks_in (take i xs)) (take (suc k) (drop i xs)) (drop (suc k) (drop i xs)) outer.1

        new_sound : SoundAt c key w (blocks_in (take i xs)) new
        new_sound =
            (refl, bytes_all c laws key wf.key_is w iv-block wf.fits (blocks_in (take i xs)) (take (suc k) (drop i xs)) inner.0 (window xs i (suc k) h).1)

        new_rest : Sound c key w (blocks_in (take i xs) ++ blocks_of_runs (runs_in new)) rest
        new_rest = inner.1

    -- a join of two
    pair_neighbours : (i j : ℕ) → AllRecorded xs (i ∷ j ∷ []) → j ≡ suc i → join_two in_words (record_in (segment xs i)) (record_in (segment xs j)) ≡ given (record_of_segments c s xs i 2)
    unfolding join_two decide consecutive joined_all joined_onto
    pair_neighbours i j h e =
        subst (λ (j : ℕ). AllRecorded xs (i ∷ j ∷ []) → join_two in_words (record_in (segment xs i)) (record_in (segment xs j)) ≡ given (record_of_segments c s xs i 2)) (sym e)
        (λ h. let n = neighbours i 1 h in
        let b : any_beyond in_words (records_at xs (i ∷ suc i ∷ [])) ≡ false = n.0 in
        let a : apart in_words (records_at xs (i ∷ suc i ∷ [])) ≡ false = n.1 in
        rw (b, a) (ap (λ (r : RunRecord). given r) n.2)) h

    pair_apart : (i j : ℕ) → AllRecorded xs (i ∷ j ∷ []) → apart in_words (records_at xs (i ∷ j ∷ [])) ≡ true
        → join_two in_words (record_in (segment xs i)) (record_in (segment xs j)) ≡ refused 8
    unfolding join_two decide
    pair_apart i j h e = rw (none-beyond c key w xs (i ∷ j ∷ []) inv.sound blocks_fit h, e)

    pair_expected : (i j : ℕ) → AllRecorded xs (i ∷ j ∷ []) → ExpectedOfJoin c (calls_of c) s xs (i ∷ j ∷ []) (join_two in_words (record_in (segment xs i)) (record_in (segment xs j)))
    pair_expected i j h =
        record {
          neighbours = λ first k e.
              let p = pair_consecutive i j first k e in
              subst (λ (n : ℕ). join_two in_words (record_in (segment xs i)) (record_in (segment xs j)) ≡ given (record_of_segments c s xs n (suc k))) p.0
              (subst (λ (n : ℕ). join_two in_words (record_in (segment xs i)) (record_in (segment xs j)) ≡ given (record_of_segments c s xs i (suc n))) p.1 (pair_neighbours i j h p.2));
          empty = λ e. absurd (let z : ◌≡◌ {A = ℕ} 0 1 = cc in omega arith);
          others = pair_apart i j h;
        }

    -- a join of a list
    list_neighbours : (is : List ℕ) → AllRecorded xs is → (i k : ℕ) → is ≡ consecutive i (suc k) → join_list in_words (records_at xs is) ≡ given (record_of_segments c s xs i (suc k))
    list_neighbours is h i k e =
        subst (λ (is : List ℕ). AllRecorded xs is → join_list in_words (records_at xs is) ≡ given (record_of_segments c s xs i (suc k))) (sym e)
        (λ h. let n = neighbours i k h in
        unfold join_list decide in rw (n.0, n.1) (unfold none consecutive in (ap (λ (r : RunRecord). given r) n.2))) h

    list_empty : (is : List ℕ) → is ≡ [] → join_list in_words (records_at xs is) ≡ refused 9
    unfolding join_list decide any_beyond_within apart none
    list_empty is e = rw e

    list_apart : (is : List ℕ) → AllRecorded xs is → apart in_words (records_at xs is) ≡ true → join_list in_words (records_at xs is) ≡ refused 8
    unfolding join_list decide
    list_apart is h e = rw (none-beyond c key w xs is inv.sound blocks_fit h, e)

    refused_inv : (a : Answer RunRecord) (n i k : ℕ) → a ≡ refused n → Inv c s (merge_by a xs i k)
    refused_inv a n i k e = subst (λ (a : Answer RunRecord). Inv c s (merge_by a xs i k)) (sym e) (unfold merge_by in inv)

    -- one call
    step : NonzeroMask c key (iv_of w) → (call : Call) → Allowed xs call → Expected c (calls_of c) s xs call × Inv c s (after (calls_of c) s xs call)
    unfolding Allowed after answer_of
    step nz (run_at i room) m = (
      unfold Expected in run_expected nz i room m.0 m.1,
      run_inv i (room_of w room) m.0 (run_outcome (calls_of c) s xs i room) (enough i room) (run_masked nz i room m.0 m.1),
    )
    step nz (join_pair i j) m = (unfold Expected answer_of in pair_expected i j m.0, by m.1)
      where
        by : (j ≡ suc i) ⊎ (apart in_words (records_at xs (i ∷ j ∷ [])) ≡ true) → Inv c s (merge_by (join_two in_words (record_in (segment xs i)) (record_in (segment xs j))) xs i 2)
        by (inl e) =
            merge_inv i 1 (join_two in_words (record_in (segment xs i)) (record_in (segment xs j)))
            (unfold consecutive in (subst (λ (j : ℕ). AllRecorded xs (i ∷ j ∷ [])) e m.0)) (pair_neighbours i j m.0 e)
        by (inr e) = refused_inv (join_two in_words (record_in (segment xs i)) (record_in (segment xs j))) 8 i 2 (pair_apart i j m.0 e)
    step nz (join_many is) m = (
      unfold Expected answer_of in (record { neighbours = list_neighbours is m.0; empty = list_empty is; others = list_apart is m.0 }),
      by m.1,
    )
      where
        many : (i k : ℕ) → is ≡ consecutive i (suc k) → Inv c s (merge_by (join_list in_words (records_at xs is)) xs (head_or 0 is) (length is))
        many i k e =
            let hd : head_or 0 is ≡ i = ap (head_or 0) e ∙ first_of i k in
            subst (λ (n : ℕ). Inv c s (merge_by (join_list in_words (records_at xs is)) xs n (length is))) (sym hd)
            (subst (λ (n : ℕ). Inv c s (merge_by (join_list in_words (records_at xs is)) xs i n)) (sym (ap length e ∙ length-consecutive i (suc k)))
            (merge_inv i k (join_list in_words (records_at xs is)) (subst (AllRecorded xs) e m.0) (list_neighbours is m.0 i k e)))

        by : ((i : ℕ) × (k : ℕ) × (is ≡ consecutive i (suc k))) ⊎ ((is ≡ []) ⊎ (apart in_words (records_at xs is) ≡ true))
            → Inv c s (merge_by (join_list in_words (records_at xs is)) xs (head_or 0 is) (length is))
        by (inl n) = many n.0 n.1 n.2
        by (inr (inl e)) = refused_inv (join_list in_words (records_at xs is)) 9 (head_or 0 is) (length is) (list_empty is e)
        by (inr (inr e)) = refused_inv (join_list in_words (records_at xs is)) 8 (head_or 0 is) (length is) (list_apart is m.0 e)

  -- any list of calls
  steps : NonzeroMask c key (iv_of w) → (xs : List Segment) (calls : List Call) → Inv c s xs → EachCall (calls_of c) s Allowed xs calls
      → EachCall (calls_of c) s (Expected c (calls_of c) s) xs calls × Inv c s (after_all (calls_of c) s xs calls)
  unfolding EachCall after_all
  steps nz xs [] inv m = (tt, inv)
  steps nz xs (call ∷ calls) inv m =
      let one = step xs inv nz call m.0 in
      let rest = steps nz (after (calls_of c) s xs call) calls one.1 m.1 in
      ((one.0, rest.0), rest.1)

  -- every record and every ciphertext
  record_there : (xs : List Segment) → Inv c s xs → (i : ℕ) → is_recorded (segment xs i) ≡ true
      → (record_in (segment xs i) ≡ record_of_segments c s xs i 1) × (bytes_in (segment xs i) ≡ ciphertext_of_segment c s xs i)
  unfolding record_of_segments
  record_there xs inv i e =
      let h : i < length xs = recorded_inside xs i e in
      let r = by (blocks_in (take i xs)) (segment xs i) e (sound_at c key w xs i h inv.sound) in (
        r.0 ∙ ap (record_for c key w (blocks_in (take i xs))) (sym (blocks-one xs inv i h)),
        r.1 ∙ ap (output_of c key w (blocks_in (take i xs))) (sym (blocks-one xs inv i h)) ∙ sym (ciphertext_there xs inv i),
      )
    where
      by : (before : List (List ℕ)) (x : Segment) → is_recorded x ≡ true → SoundAt c key w before x
          → (record_in x ≡ record_for c key w before (blocks_of_runs (runs_in x))) × (bytes_in x ≡ output_of c key w before (blocks_of_runs (runs_in x)))
      by before (pending r) e h = absurd (let z : ◌≡◌ {A = ℕ} 0 1 = (unfold is_recorded in cc) in omega arith)
      by before (recorded rs r bytes) e h = unfold record_in bytes_in runs_in in h

  -- the whole record closes into the unbroken tag
  closing : closing_tag in_words (finish_of w) c key (iv_of w) (record_for c key w [] (all_blocks w)) ≡ whole_tag c s
  unfolding closing_tag whole_tag unbroken_tag record_of unbroken pass
  closing =
      ap₂ ((finish_of w).tag_from c key) (record_bytes c laws (source_of w) key wf.key_is (iv_of w) iv-block [] (all_blocks w) all_good)
      (sym (unfold unbroken in (mask_there c laws (source_of w) key wf.key_is.size (iv_of w) (iv-long w wf.fits) (all_blocks w))))

  not-part : not_whole in_words (record_for c key w [] (all_blocks w)) ≡ false
  unfolding not_whole record_of
  not-part = ne_eqb (length (all_blocks w)) 0 (λ e. let h : 0 < length (all_blocks w) = some_block w wf.fits in omega arith)

  not_beyond : beyond (record_for c key w [] (all_blocks w)).first (record_for c key w [] (all_blocks w)).count ≡ false
  unfolding record_of
  not_beyond = within 0 (length (all_blocks w)) (let h : length (all_blocks w) ≤ limit = in_limit w wf.fits in omega arith)

  closed : NonzeroMask c key (iv_of w) → close in_words (finish_of w) c key (iv_of w) (record_for c key w [] (all_blocks w)) ≡ given (whole_tag c s)
  unfolding close decide
  closed nz =
      rw (is_key key wf.key_is.size, is16 (iv_of w) (iv-long w wf.fits), not_beyond, not-part, nz) (ap (λ (t : List ℕ). given t) closing)

  -- a tag of the finish's length passes exactly when it is the unbroken one
  tested : NonzeroMask c key (iv_of w) → (tag : List ℕ) → length tag ≡ (finish_of w).tag_length → (test in_words (finish_of w) c key (iv_of w) (record_for c key w [] (all_blocks w)) tag ≡ given tt) ↔ (whole_tag c s ≡ tag)
  tested nz tag h = (
    λ e. sym closing ∙ same_true (closing_tag in_words (finish_of w) c key (iv_of w) (record_for c key w [] (all_blocks w))) tag ((last_row (same (closing_tag in_words (finish_of w) c key (iv_of w) (record_for c key w [] (all_blocks w))) tag) 6).0 (sym rows ∙ e)),
    λ e. rows ∙ (last_row (same (closing_tag in_words (finish_of w) c key (iv_of w) (record_for c key w [] (all_blocks w))) tag) 6).1
        (subst (λ (t : List ℕ). same (closing_tag in_words (finish_of w) c key (iv_of w) (record_for c key w [] (all_blocks w))) t ≡ true) (closing ∙ e) (same_self (closing_tag in_words (finish_of w) c key (iv_of w) (record_for c key w [] (all_blocks w))))),
  )
    where
      rows : test in_words (finish_of w) c key (iv_of w) (record_for c key w [] (all_blocks w)) tag
          ≡ decide ((6, not (same (closing_tag in_words (finish_of w) c key (iv_of w) (record_for c key w [] (all_blocks w))) tag)) ∷ []) tt
      rows =
          unfold test decide in
          rw (is_key key wf.key_is.size, is16 (iv_of w) (iv-long w wf.fits), is_tag (finish_of w) tag h, not_beyond, not-part, nz)

  tag_long : (t : Finish) (sealed : List ℕ) → Fits (checking t sealed) → length (tag_part t sealed) ≡ t.tag_length
  unfolding Fits tag_part
  tag_long t sealed h = length-drop (length sealed - t.tag_length) sealed ∙ omega (arith, h.0)

  tested_as : (v : Work) → Fits v → (r : RunRecord)
      → ((tag : List ℕ) → length tag ≡ (finish_of v).tag_length → (test in_words (finish_of v) c key (iv_of v) r tag ≡ given tt) ↔ (unbroken_tag (finish_of v) c (source_of v) key (iv_of v) (all_blocks v) ≡ tag))
      → TestedAs c (calls_of c) key v r
  unfolding TestedAs finish_of iv_of source_of all_blocks last_kind text_of blocks_of_run UnbrokenCheck
  tested_as (sealing t iv message) fit r h = h
  tested_as (checking t sealed) fit r h = h (tag_part t sealed) (tag_long t sealed fit)

  -- a single record is the whole one
  single-whole : NonzeroMask c key (iv_of w) → (rs : List Run) (r : RunRecord) (bytes : List ℕ) → Inv c s (recorded rs r bytes ∷ []) → Whole c (calls_of c) s r bytes
  single-whole nz rs r bytes inv =
      record {
        ciphertext_whole = inv.sound.0.1 ∙ ap (output_of c key w []) all ∙ sym (unfold whole in (unbroken-output c laws key wf.key_is.size w wf.fits (all_blocks w)));
        closes_whole = rw is (closed nz);
        tests-whole = tested_as w wf.fits r (rw is (unfold whole_tag in (tested nz)));
      }
    where
      all : blocks_of_runs rs ≡ all_blocks w
      all = sym (blocks_in-one (recorded rs r bytes) ∙ runs_in_lem) ∙ inv.blocks_are
        where
          runs_in_lem : blocks_of_runs (runs_in (recorded rs r bytes)) ≡ blocks_of_runs rs
          runs_in_lem = unfold runs_in in refl

      is : r ≡ record_for c key w [] (all_blocks w)
      is = inv.sound.0.0 ∙ ap (record_for c key w []) all

-- DEMAND 3
pub demand3 : (c : Cipher) → Lawful c → Demand3 c (calls_of c)
demand3 c laws s nz wf calls may =
    record {
      answers = all.0;
      blocks_are = all.1.blocks_are;
      records = λ i e. (record_there c laws s wf (after_all (calls_of c) s (start s) calls) all.1 i e).0;
      ciphertexts = λ i e. (record_there c laws s wf (after_all (calls_of c) s (start s) calls) all.1 i e).1;
      single = λ rs r bytes e. single-whole c laws s wf nz rs r bytes (subst (Inv c s) e all.1);
    }
  where
    all : EachCall (calls_of c) s (Expected c (calls_of c) s) (start s) calls × Inv c s (after_all (calls_of c) s (start s) calls)
    all = steps c laws s wf nz (start s) calls (start_inv c laws s wf) may
