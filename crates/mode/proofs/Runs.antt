-- One run: where it stands in the unbroken pass, what it writes and what its call comes to.
use mathlib.Core.Path.{◌≡◌, refl, sym, ap, ap₂, ◌∙◌}
use mathlib.Core.List.{List, [], ◌∷◌, ◌++◌}
use mathlib.Core.Bool.{Bool, true, false, cond, not}
use Prim.Native.Nat.{ℕ, ◌+◌, ◌*◌, ◌≤◌}
use native.Mathlib.Nat.{add_comm}
use native.Mathlib.Omega.{arith}
use lib.ListN.{length, take, drop, length-append}
use lib.Seq.{length-take-le, take_at, drop_at, take-nil, drop-nil}
use lib.Dec.{leb, ltb}
use borrow.Author.Tests.{eq-eqb, leb-true, leb-false, le-ltb, lt-ltb}
use Rattle.blocks.specs.Bytes.{xor_bytes}
use Rattle.blocks.specs.Words.{words_of}
use Rattle.gf128.specs.Gf128.{times_x, jump}
use Rattle.gf128.proofs.TimesX.{length-times_x, length-jump, jump-add}
use Rattle.fips197.specs.Aes.{KeyLength}
use Rattle.mode.specs.Mode.{Cipher, Lawful, Finish, Source, plaintext, ciphertext, RunRecord, in_words, zero_block, start_mask, middletext, written, pass, unbroken, record_of, blocks_of, iv_part}
use Rattle.mode.specs.Table.{Answer, refused, given, decide, not16, beyond, beyond_within, zero_mask, limit}
use Rattle.mode.specs.Calls.{unaligned_run, Kind, middle, last, blocks_of_run, outcome_by, pass_from, run_record, seal_run, seal_run_rows, check_run, calls_of}
use Rattle.mode.specs.Parallel.{Work, sealing, checking, source_of, iv_of, Fits, Run, room_of, outcome_of_run}
use Rattle.fips197.proofs.Keys.{is_key}
use Rattle.mode.proofs.Laws.{AllLong, all_left, all_right, output-append, start-long, mask_there, middle_long, xor-long}
use Rattle.mode.proofs.Blocks.{run_long}
use Rattle.mode.proofs.InWords.{same-record}

pub is16 : (a : List ℕ) → length a ≡ 16 → not16 a ≡ false
unfolding not16
is16 a e = ap not (eq-eqb (length a) 16 e)

pub within : (first count : ℕ) → first + count ≤ limit → beyond first count ≡ false
unfolding beyond_within
within first count h = le-ltb limit (first + count) h

-- too little room is no room
turned : (a b : ℕ) → ltb b a ≡ not (leb a b)
turned a b = go (leb a b) refl
  where
    go : (t : Bool) → leb a b ≡ t → ltb b a ≡ not (leb a b)
    go true e = rw e (le-ltb b a (leb-true a b e))
    go false e = rw e (lt-ltb b a (leb-false a b e))

turned_cond : {A : Type 0} (t : Bool) (x y : A) → cond (not t) x y ≡ cond t y x
turned_cond true x y = refl
turned_cond false x y = refl

pub iv-long : (w : Work) → Fits w → length (iv_of w) ≡ 16
unfolding Fits iv_of iv_part
iv-long (sealing t iv message) h = h.0
iv-long (checking t sealed) h = length-take-le 16 sealed (omega (arith, h.0))

-- a run of a message has any kind; a run of a ciphertext is no last one
unfoldable pub Suits : Work → Kind → Type 0
Suits (sealing t iv message) kind = Unit {0}
Suits (checking t sealed) kind = kind ≡ middle

-- a run that stands after the blocks `before`
pub record GoodRun (w : Work) (before : List (List ℕ)) (r : Run) : Type 0 where
  pub starts : r.first ≡ length before
  pub is_aligned : unaligned_run r.kind r.bytes ≡ false
  pub suits : Suits w r.kind

module _ (c : Cipher) (key : List ℕ) (w : Work) where
  abbrev pub mask0 : List ℕ
  mask0 = start_mask c key (iv_of w)

  -- what a pass over `these`, which stand after `before`, writes
  unfoldable pub output_of : List (List ℕ) → List (List ℕ) → List ℕ
  output_of before these = (pass c (source_of w) key these (jump (length before) mask0) zero_block).output

  abbrev pub record_for : List (List ℕ) → List (List ℕ) → RunRecord
  record_for before these = record_of c (source_of w) key (iv_of w) before these

-- where the ciphertext is in hand nothing is written
nothing_written : (c : Cipher) (key : List ℕ) (bs : List (List ℕ)) (mask p : List ℕ) → (pass c ciphertext key bs mask p).output ≡ []
unfolding pass written
nothing_written c key [] mask p = refl
nothing_written c key (b ∷ bs) mask p = nothing_written c key bs (times_x mask) (xor_bytes (times_x p) (middletext c ciphertext key mask b))

module _ (c : Cipher) (laws : Lawful c) (key : List ℕ) (key-size : KeyLength key) where
  pub output-long : (bs : List (List ℕ)) (mask p : List ℕ) → AllLong bs → length mask ≡ 16 → length (pass c plaintext key bs mask p).output ≡ 16 * length bs
  unfolding pass written
  output-long [] mask p hs hm = refl
  output-long (b ∷ bs) mask p hs hm =
      length-append (xor_bytes (c.second_half key t) mask) (pass c plaintext key bs (times_x mask) (xor_bytes (times_x p) t)).output
      ∙ ap₂ (λ (x y : ℕ). x + y)
      (xor-long (c.second_half key t) mask (laws.second_half-long key t key-size (middle_long c laws plaintext key key-size mask b hm hs.0)) hm)
      (output-long bs (times_x mask) (xor_bytes (times_x p) t) hs.1 (length-times_x mask hm))
      ∙ omega arith
    where
      t : List ℕ
      t = middletext c plaintext key mask b

  module _ (w : Work) (fit : Fits w) where
    pub mask0_long : length (mask0 c key w) ≡ 16
    mask0_long = start-long c laws (source_of w) key key-size (iv_of w) (iv-long w fit)

    pub output_of_append : (before x y : List (List ℕ)) → output_of c key w before (x ++ y) ≡ output_of c key w before x ++ output_of c key w (before ++ x) y
    unfolding output_of
    output_of_append before x y =
        output-append c laws (source_of w) key key-size x y (jump (length before) (mask0 c key w)) zero_block zero_block
        ∙ ap (λ (m : List ℕ). output_of c key w before x ++ (pass c (source_of w) key y m zero_block).output) same_mask
      where
        same_mask : jump (length x) (jump (length before) (mask0 c key w)) ≡ jump (length (before ++ x)) (mask0 c key w)
        same_mask =
            sym (jump-add (length x) (length before) (mask0 c key w))
            ∙ ap (λ (n : ℕ). jump n (mask0 c key w)) (add_comm (length x) (length before) ∙ sym (length-append before x))

    pub unbroken-output : (bs : List (List ℕ)) → (unbroken c (source_of w) key (iv_of w) bs).output ≡ output_of c key w [] bs
    unfolding unbroken output_of jump
    unbroken-output bs = refl

    -- a part of what the unbroken pass writes, by the numbers of its blocks
    pub part : (before these rest : List (List ℕ)) → AllLong (before ++ (these ++ rest))
        → take (16 * length these) (drop (16 * length before) (unbroken c (source_of w) key (iv_of w) (before ++ (these ++ rest))).output)
        ≡ output_of c key w before these
    unfolding output_of
    part before these rest h =
        rw (unbroken-output (before ++ (these ++ rest)), output_of_append [] before (these ++ rest), output_of_append before these rest)
        (by (source_of w))
      where
        by : (s : Source)
            → take (16 * length these)
            (drop (16 * length before)
            ((pass c s key before (jump 0 (mask0 c key w)) zero_block).output
            ++ ((pass c s key these (jump (length before) (mask0 c key w)) zero_block).output
            ++ (pass c s key rest (jump (length (before ++ these)) (mask0 c key w)) zero_block).output)))
            ≡ (pass c s key these (jump (length before) (mask0 c key w)) zero_block).output
        by plaintext =
            ap (take (16 * length these))
            (drop_at (pass c plaintext key before (jump 0 (mask0 c key w)) zero_block).output _ (16 * length before)
            (output-long before (jump 0 (mask0 c key w)) zero_block (all_left before (these ++ rest) h) (length-jump 0 (mask0 c key w) mask0_long)))
            ∙ take_at (pass c plaintext key these (jump (length before) (mask0 c key w)) zero_block).output _ (16 * length these)
            (output-long these (jump (length before) (mask0 c key w)) zero_block (all_left these rest (all_right before (these ++ rest) h))
            (length-jump (length before) (mask0 c key w) mask0_long))
        by ciphertext =
            rw (nothing_written c key before (jump 0 (mask0 c key w)) zero_block, nothing_written c key these (jump (length before) (mask0 c key w)) zero_block, nothing_written c key rest (jump (length (before ++ these)) (mask0 c key w)) zero_block)
            (ap (take (16 * length these)) (drop-nil (16 * length before)) ∙ take-nil (16 * length these))

    -- a run's own record is the formulas' record of its blocks
    run_record_lem : (before these : List (List ℕ)) (first : ℕ) → first ≡ length before
        → run_record in_words c (source_of w) key (iv_of w) first these ≡ record_for c key w before these
    unfolding run_record pass_from record_of
    run_record_lem before these first e =
        same-record (run_record in_words c (source_of w) key (iv_of w) first these) (record_for c key w before these) e refl
        (ap (λ (m : List ℕ). words_of (pass c (source_of w) key these m zero_block).preauthenticator)
        (ap (λ (n : ℕ). jump n (mask0 c key w)) e ∙ sym (mask_there c laws (source_of w) key key-size (iv_of w) (iv-long w fit) before)))

    run_output : (before these : List (List ℕ)) (first : ℕ) → first ≡ length before
        → (pass_from c (source_of w) key (iv_of w) first these).output ≡ output_of c key w before these
    unfolding pass_from output_of
    run_output before these first e = ap (λ (n : ℕ). (pass c (source_of w) key these (jump n (mask0 c key w)) zero_block).output) e

  check_rows : (kind : Kind) (t : Finish) (sealed : List ℕ) (r : Run) → Fits (checking t sealed) → kind ≡ middle → unaligned_run kind r.bytes ≡ false
      → r.first + length (blocks_of_run kind r.bytes) ≤ limit
      → check_run in_words c key (iv_part sealed) r.first r.bytes
      ≡ cond (zero_mask c key (iv_part sealed)) (refused 10) (given (run_record in_words c ciphertext key (iv_part sealed) r.first (blocks_of_run kind r.bytes)))
  unfolding check_run decide blocks_of_run unaligned_run iv_of
  check_rows middle t sealed r fit e al bd =
      let b : beyond r.first (length (blocks_of r.bytes)) ≡ false = within r.first (length (blocks_of r.bytes)) bd in
      rw (is_key key key-size, is16 (iv_part sealed) (iv-long (checking t sealed) fit), al, b)
  check_rows last t sealed r fit e al bd = absurd (let z : ◌≡◌ {A = ℕ} 0 1 = cc in omega arith)

  -- what the call of a run comes to
  pub run_outcome_lem : (w : Work) (fit : Fits w) (before : List (List ℕ)) (r : Run) (room : ℕ) → GoodRun w before r
      → length before + length (blocks_of_run r.kind r.bytes) ≤ limit
      → outcome_of_run (calls_of c) key w r room
      ≡ outcome_by
      (cond (zero_mask c key (iv_of w)) (refused 10)
      (cond (leb (length (output_of c key w before (blocks_of_run r.kind r.bytes))) (room_of w room))
      (given (record_for c key w before (blocks_of_run r.kind r.bytes))) (refused 5)))
      (output_of c key w before (blocks_of_run r.kind r.bytes)) (room_of w room)
  unfolding outcome_of_run room_of seal_run decide iv_of source_of Suits
  run_outcome_lem (sealing t iv message) fit before r room good bound =
      ap₂ (λ (a : Answer RunRecord) (o : List ℕ). outcome_by a o room)
      (rows
      ∙ ap (cond (zero_mask c key iv) (refused 10))
      (ap₂ (λ (t : Bool) (x : RunRecord). cond t (refused 5) (given x)) (turned (16 * n) room) (run_record_lem w fit before bs r.first good.starts)
      ∙ turned_cond (leb (16 * n) room) (refused 5) (given (record_for c key w before bs))
      ∙ ap (λ (k : ℕ). cond (leb k room) (given (record_for c key w before bs)) (refused 5)) (sym out_long)))
      (run_output w fit before bs r.first good.starts)
    where
      w : Work
      w = sealing t iv message

      bs : List (List ℕ)
      bs = blocks_of_run r.kind r.bytes

      n : ℕ
      n = length bs

      rows : decide (seal_run_rows c key iv r.first r.kind r.bytes room) (run_record in_words c plaintext key iv r.first bs)
          ≡ cond (zero_mask c key iv) (refused 10) (cond (ltb room (16 * n)) (refused 5) (given (run_record in_words c plaintext key iv r.first bs)))
      rows =
          let b : beyond r.first n ≡ false = within r.first n (rw good.starts bound) in
          rw (is_key key key-size, is16 iv (iv-long w fit), good.is_aligned, b)

      out_long : length (output_of c key w before bs) ≡ 16 * n
      out_long =
          unfold output_of source_of in
          output-long bs (jump (length before) (mask0 c key w)) zero_block (run_long r.kind r.bytes good.is_aligned)
          (length-jump (length before) (mask0 c key w) (mask0_long w fit))
  run_outcome_lem (checking t sealed) fit before r room good bound =
      rw nothing
      (ap (λ (a : Answer RunRecord). outcome_by a [] 0)
      (check_rows r.kind t sealed r fit good.suits good.is_aligned (rw good.starts bound) ∙ ap (λ (x : RunRecord). cond (zero_mask c key (iv_part sealed)) (refused 10) (given x)) (run_record_lem w fit before bs r.first good.starts)))
    where
      w : Work
      w = checking t sealed

      bs : List (List ℕ)
      bs = blocks_of_run r.kind r.bytes

      nothing : output_of c key w before bs ≡ []
      nothing = unfold output_of source_of in nothing_written c key bs (jump (length before) (mask0 c key w)) zero_block
