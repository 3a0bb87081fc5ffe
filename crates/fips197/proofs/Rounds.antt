-- The halves of a cipher of any number of rounds: blocks go to blocks, each half backwards undoes it forwards, and forwards undoes
-- backwards; the second half after the first is CIPHER(), and the first backwards after the second backwards INVCIPHER().
use mathlib.Core.Path.{◌≡◌, refl, sym, ap, ap₂, ◌∙◌}
use mathlib.Core.List.{List, [], ◌∷◌, ◌++◌}
use Prim.Native.Nat.{ℕ, zero, suc, ◌+◌, ◌-◌, ◌≤◌, ◌<◌}
use native.Mathlib.Numerals.{add-one}
use native.Mathlib.Omega.{arith}
use lib.ListN.{length, take, drop, take-append-drop}
use lib.Seq.{slice, slice_empty, slice-cons, take-take, length-take-le, drop-append-le}
use Rattle.blocks.specs.Bytes.{Block, Blocks, none, more, xor_bytes}
use Rattle.blocks.proofs.XorBytes.{block-xor}
use Rattle.blocks.proofs.Chunks.{block_at, blocks-slice}
use Rattle.fips197.specs.State.{sub_bytes, inv_sub_bytes, shift_rows, inv_shift_rows, mix_columns, inv_mix_columns}
use Rattle.fips197.specs.Cipher.{round_key, round, last_round, inv_round, inv_last_round, rounds, inv_rounds, after_round, cipher, inv_from, inv_cipher, first_half, second_half, inv_first_half, inv_second_half}
use Rattle.fips197.proofs.Steps.{block-sub, block_inv_sub, block_shift, block_inv_shift, block-mix, block-inv_mix, sub_undone, sub_redone, shift_undone, shift_redone, mix_undone, mix_redone, add_undone}

-- ---- one round

module _ (s k : List ℕ) (hs : Block s) (hk : Block k) where
  block_sub_shift : Block (shift_rows (sub_bytes s))
  block_sub_shift = block_shift (sub_bytes s) (block-sub s hs)

  block_mixed : Block (mix_columns (shift_rows (sub_bytes s)))
  block_mixed = block-mix (shift_rows (sub_bytes s)) block_sub_shift

  block_keyed : Block (xor_bytes s k)
  block_keyed = block-xor s k hs hk

  block_unmixed : Block (inv_mix_columns (xor_bytes s k))
  block_unmixed = block-inv_mix (xor_bytes s k) block_keyed

  block-round : Block (round s k)
  unfolding round
  block-round = block-xor (mix_columns (shift_rows (sub_bytes s))) k block_mixed hk

  block_last : Block (last_round s k)
  unfolding last_round
  block_last = block-xor (shift_rows (sub_bytes s)) k block_sub_shift hk

  block-inv_round : Block (inv_round s k)
  unfolding inv_round
  block-inv_round = block_inv_sub (inv_shift_rows (inv_mix_columns (xor_bytes s k))) (block_inv_shift (inv_mix_columns (xor_bytes s k)) block_unmixed)

  block_inv_last : Block (inv_last_round s k)
  unfolding inv_last_round
  block_inv_last = block_inv_sub (inv_shift_rows (xor_bytes s k)) (block_inv_shift (xor_bytes s k) block_keyed)

-- SubBytes and ShiftRows, undone and redone
back : (s : List ℕ) → Block s → inv_sub_bytes (inv_shift_rows (shift_rows (sub_bytes s))) ≡ s
back s h = ap inv_sub_bytes (shift_undone (sub_bytes s) (block-sub s h)) ∙ sub_undone s h

forth : (s : List ℕ) → Block s → shift_rows (sub_bytes (inv_sub_bytes (inv_shift_rows s))) ≡ s
forth s h = ap shift_rows (sub_redone (inv_shift_rows s) (block_inv_shift s h)) ∙ shift_redone s h

module _ (s k : List ℕ) (hs : Block s) (hk : Block k) where
  round_undone : inv_round (round s k) k ≡ s
  unfolding round inv_round
  round_undone =
      let t = shift_rows (sub_bytes s) in
      let ht = block_sub_shift s k hs hk in
      ap (λ (x : List ℕ). inv_sub_bytes (inv_shift_rows (inv_mix_columns x))) (add_undone (mix_columns t) k (block-mix t ht) hk)
      ∙ ap (λ (x : List ℕ). inv_sub_bytes (inv_shift_rows x)) (mix_undone t ht) ∙ back s hs

  round_redone : round (inv_round s k) k ≡ s
  unfolding round inv_round
  round_redone =
      let t = xor_bytes s k in
      let ht = block-xor s k hs hk in
      ap (λ (x : List ℕ). xor_bytes (mix_columns x) k) (forth (inv_mix_columns t) (block-inv_mix t ht))
      ∙ ap (λ (x : List ℕ). xor_bytes x k) (mix_redone t ht) ∙ add_undone s k hs hk

  last_undone : inv_last_round (last_round s k) k ≡ s
  unfolding last_round inv_last_round
  last_undone =
      ap (λ (x : List ℕ). inv_sub_bytes (inv_shift_rows x)) (add_undone (shift_rows (sub_bytes s)) k (block_sub_shift s k hs hk) hk) ∙ back s hs

  last_redone : last_round (inv_last_round s k) k ≡ s
  unfolding last_round inv_last_round
  last_redone = ap (λ (x : List ℕ). xor_bytes x k) (forth (xor_bytes s k) (block-xor s k hs hk)) ∙ add_undone s k hs hk

-- ---- rounds, one for each key

block-rounds : {ks : List (List ℕ)} (s : List ℕ) → Blocks ks → Block s → Block (rounds ks s)
unfolding rounds
block-rounds s none hs = hs
block-rounds s (more {b = k} hk h) hs = block-rounds (round s k) h (block-round s k hs hk)

block-inv_rounds : {ks : List (List ℕ)} (s : List ℕ) → Blocks ks → Block s → Block (inv_rounds ks s)
unfolding inv_rounds
block-inv_rounds s none hs = hs
block-inv_rounds s (more {b = k} {bs = ks} hk h) hs = block-inv_round (inv_rounds ks s) k (block-inv_rounds s h hs) hk

rounds_undone : {ks : List (List ℕ)} (s : List ℕ) → Blocks ks → Block s → inv_rounds ks (rounds ks s) ≡ s
unfolding rounds inv_rounds
rounds_undone s none hs = refl
rounds_undone s (more {b = k} {bs = ks} hk h) hs =
    ap (λ (x : List ℕ). inv_round x k) (rounds_undone (round s k) h (block-round s k hs hk)) ∙ round_undone s k hs hk

rounds_redone : {ks : List (List ℕ)} (s : List ℕ) → Blocks ks → Block s → rounds ks (inv_rounds ks s) ≡ s
unfolding rounds inv_rounds
rounds_redone s none hs = refl
rounds_redone s (more {b = k} {bs = ks} hk h) hs =
    ap (rounds ks) (round_redone (inv_rounds ks s) k (block-inv_rounds s h hs) hk) ∙ rounds_redone s h hs

-- ---- the halves

module _ (h nr : ℕ) (ks : List (List ℕ)) (hk : Blocks ks) (long : nr < length ks) where
  first_key : Block (round_key ks 0)
  first_key = block_at 0 hk (omega arith)

  last_key : Block (round_key ks nr)
  last_key = block_at nr hk long

  first-keys : Blocks (slice 1 (suc h) ks)
  first-keys = blocks-slice 1 (suc h) hk

  second_keys : Blocks (slice (suc h) nr ks)
  second_keys = blocks-slice (suc h) nr hk

  pub block-first : (s : List ℕ) → Block s → Block (first_half h ks s)
  unfolding first_half
  block-first s b = block-rounds (xor_bytes s (round_key ks 0)) first-keys (block-xor s (round_key ks 0) b first_key)

  pub block_second : (s : List ℕ) → Block s → Block (second_half h nr ks s)
  unfolding second_half
  block_second s b = block_last (rounds (slice (suc h) nr ks) s) (round_key ks nr) (block-rounds s second_keys b) last_key

  pub block_inv_first : (s : List ℕ) → Block s → Block (inv_first_half h ks s)
  unfolding inv_first_half
  block_inv_first s b = block-xor (inv_rounds (slice 1 (suc h) ks) s) (round_key ks 0) (block-inv_rounds s first-keys b) first_key

  pub block_inv_second : (s : List ℕ) → Block s → Block (inv_second_half h nr ks s)
  unfolding inv_second_half
  block_inv_second s b = block-inv_rounds (inv_last_round s (round_key ks nr)) second_keys (block_inv_last s (round_key ks nr) b last_key)

  pub first_undone : (s : List ℕ) → Block s → inv_first_half h ks (first_half h ks s) ≡ s
  unfolding first_half inv_first_half
  first_undone s b =
      ap (λ (x : List ℕ). xor_bytes x (round_key ks 0)) (rounds_undone (xor_bytes s (round_key ks 0)) first-keys (block-xor s (round_key ks 0) b first_key))
      ∙ add_undone s (round_key ks 0) b first_key

  pub first_redone : (s : List ℕ) → Block s → first_half h ks (inv_first_half h ks s) ≡ s
  unfolding first_half inv_first_half
  first_redone s b =
      ap (rounds (slice 1 (suc h) ks)) (add_undone (inv_rounds (slice 1 (suc h) ks) s) (round_key ks 0) (block-inv_rounds s first-keys b) first_key)
      ∙ rounds_redone s first-keys b

  pub second_undone : (s : List ℕ) → Block s → inv_second_half h nr ks (second_half h nr ks s) ≡ s
  unfolding second_half inv_second_half
  second_undone s b =
      ap (inv_rounds (slice (suc h) nr ks)) (last_undone (rounds (slice (suc h) nr ks) s) (round_key ks nr) (block-rounds s second_keys b) last_key)
      ∙ rounds_undone s second_keys b

  pub second_redone : (s : List ℕ) → Block s → second_half h nr ks (inv_second_half h nr ks s) ≡ s
  unfolding second_half inv_second_half
  second_redone s b =
      ap (λ (x : List ℕ). last_round x (round_key ks nr)) (rounds_redone (inv_last_round s (round_key ks nr)) second_keys (block_inv_last s (round_key ks nr) b last_key))
      ∙ last_redone s (round_key ks nr) b last_key

-- ---- parts of a schedule

slice-split : (a b c : ℕ) (ks : List (List ℕ)) → a ≤ b → b ≤ c → c ≤ length ks → slice a c ks ≡ slice a b ks ++ slice b c ks
slice-split a b c ks ab bc cl =
    let e : length (take b ks) ≡ b = length-take-le b ks (omega arith) in
    ap (drop a) (sym (take-append-drop b (take c ks)) ∙ ap (λ (x : List (List ℕ)). x ++ drop b (take c ks)) (take-take b c ks bc))
    ∙ drop-append-le a (take b ks) (drop b (take c ks)) (omega arith)

-- all keys up to the last, and the last
slice_snoc : (a n : ℕ) (ks : List (List ℕ)) → a ≤ n → n < length ks → slice a (suc n) ks ≡ slice a n ks ++ (round_key ks n ∷ [])
slice_snoc a n ks an nl =
    slice-split a n (suc n) ks an (omega arith) nl
    ∙ ap (λ (x : List (List ℕ)). slice a n ks ++ x)
    (slice-cons n (suc n) ks [] (omega arith) nl ∙ ap (λ (x : List (List ℕ)). round_key ks n ∷ x) (slice_empty (suc n) ks))

rounds-append : (ks ls : List (List ℕ)) (s : List ℕ) → rounds (ks ++ ls) s ≡ rounds ls (rounds ks s)
unfolding rounds
rounds-append [] ls s = refl
rounds-append (k ∷ ks) ls s = rounds-append ks ls (round s k)

inv_rounds-append : (ks ls : List (List ℕ)) (s : List ℕ) → inv_rounds (ks ++ ls) s ≡ inv_rounds ks (inv_rounds ls s)
unfolding inv_rounds
inv_rounds-append [] ls s = refl
inv_rounds-append (k ∷ ks) ls s = ap (λ (x : List ℕ). inv_round x k) (inv_rounds-append ks ls s)

-- a round more at the end
rounds_snoc : (a n : ℕ) (ks : List (List ℕ)) (s : List ℕ) → a ≤ n → n < length ks
    → rounds (slice a (suc n) ks) s ≡ round (rounds (slice a n ks) s) (round_key ks n)
unfolding rounds
rounds_snoc a n ks s an nl =
    ap (λ (x : List (List ℕ)). rounds x s) (slice_snoc a n ks an nl) ∙ rounds-append (slice a n ks) (round_key ks n ∷ []) s

inv_rounds_snoc : (a n : ℕ) (ks : List (List ℕ)) (s : List ℕ) → a ≤ n → n < length ks
    → inv_rounds (slice a (suc n) ks) s ≡ inv_rounds (slice a n ks) (inv_round s (round_key ks n))
unfolding inv_rounds
inv_rounds_snoc a n ks s an nl =
    ap (λ (x : List (List ℕ)). inv_rounds x s) (slice_snoc a n ks an nl) ∙ inv_rounds-append (slice a n ks) (round_key ks n ∷ []) s

-- ---- FIPS 197's loops

rounds-after : (ks : List (List ℕ)) (s : List ℕ) (n : ℕ) → n < length ks → rounds (slice 1 (suc n) ks) (xor_bytes s (round_key ks 0)) ≡ after_round ks s n
unfolding after_round rounds
rounds-after ks s zero h = ap (λ (x : List (List ℕ)). rounds x (xor_bytes s (round_key ks 0))) (slice_empty 1 ks)
rounds-after ks s (suc n) h =
    rounds_snoc 1 (suc n) ks (xor_bytes s (round_key ks 0)) (omega arith) h ∙ ap (λ (x : List ℕ). round x (round_key ks (suc n))) (rounds-after ks s n (omega arith))

inv_rounds-from : (ks : List (List ℕ)) (s : List ℕ) (n : ℕ) → n < length ks
    → xor_bytes (inv_rounds (slice 1 (suc n) ks) (inv_sub_bytes (inv_shift_rows s))) (round_key ks 0) ≡ inv_from ks n s
unfolding inv_from inv_rounds inv_round
inv_rounds-from ks s zero h =
    ap (λ (x : List (List ℕ)). xor_bytes (inv_rounds x (inv_sub_bytes (inv_shift_rows s))) (round_key ks 0)) (slice_empty 1 ks)
inv_rounds-from ks s (suc n) h =
    ap (λ (x : List ℕ). xor_bytes x (round_key ks 0)) (inv_rounds_snoc 1 (suc n) ks (inv_sub_bytes (inv_shift_rows s)) (omega arith) h)
    ∙ inv_rounds-from ks (inv_mix_columns (xor_bytes (inv_sub_bytes (inv_shift_rows s)) (round_key ks (suc n)))) n (omega arith)

-- the first half is the state after its last round
pub first-after : (h : ℕ) (ks : List (List ℕ)) (s : List ℕ) → h < length ks → first_half h ks s ≡ after_round ks s h
unfolding first_half
first-after h ks s l = rounds-after ks s h l

module _ (h nr : ℕ) (ks : List (List ℕ)) (hn : h < nr) (long : nr < length ks) where
  whole : slice 1 nr ks ≡ slice 1 (suc h) ks ++ slice (suc h) nr ks
  whole = slice-split 1 (suc h) nr ks (omega arith) hn (omega arith)

  before_last : suc (nr - 1) ≡ nr
  before_last = omega arith

  -- the second half after the first is the cipher
  pub halves_cipher : (s : List ℕ) → second_half h nr ks (first_half h ks s) ≡ cipher nr ks s
  unfolding first_half second_half cipher
  halves_cipher s =
      let x = xor_bytes s (round_key ks 0) in
      ap (λ (z : List ℕ). last_round z (round_key ks nr))
      (sym (ap (λ (z : List (List ℕ)). rounds z x) whole ∙ rounds-append (slice 1 (suc h) ks) (slice (suc h) nr ks) x)
      ∙ ap (λ (m : ℕ). rounds (slice 1 m ks) x) (sym before_last) ∙ rounds-after ks s (nr - 1) (omega arith))

  -- the first half backwards after the second backwards is the inverse cipher
  pub halves_inv_cipher : (s : List ℕ) → inv_first_half h ks (inv_second_half h nr ks s) ≡ inv_cipher nr ks s
  unfolding inv_first_half inv_second_half inv_cipher inv_last_round
  halves_inv_cipher s =
      let x = xor_bytes s (round_key ks nr) in
      ap (λ (z : List ℕ). xor_bytes z (round_key ks 0))
      (sym (ap (λ (z : List (List ℕ)). inv_rounds z (inv_sub_bytes (inv_shift_rows x))) whole
      ∙ inv_rounds-append (slice 1 (suc h) ks) (slice (suc h) nr ks) (inv_sub_bytes (inv_shift_rows x)))
      ∙ ap (λ (m : ℕ). inv_rounds (slice 1 m ks) (inv_sub_bytes (inv_shift_rows x))) (sym before_last))
      ∙ inv_rounds-from ks x (nr - 1) (omega arith)

-- ---- loops over a part of the schedule: what is left to do, of what there was

pub rounds_turn : (ks : List (List ℕ)) (i to : ℕ) (t u : List ℕ) → i < to → to ≤ length ks → u ≡ round t (round_key ks i)
    → rounds (slice (i + 1) to ks) u ≡ rounds (slice i to ks) t
unfolding rounds
rounds_turn ks i to t u h l e =
    ap₂ (λ (k : ℕ) (x : List ℕ). rounds (slice k to ks) x) (add-one i) e ∙ sym (ap (λ (x : List (List ℕ)). rounds x t) (slice-cons i to ks [] h l))

pub rounds_end : (ks : List (List ℕ)) (i to : ℕ) (t : List ℕ) → i ≤ to → to ≤ i → rounds (slice i to ks) t ≡ t
unfolding rounds
rounds_end ks i to t h l =
    let e : i ≡ to = omega arith in
    ap (λ (k : ℕ). rounds (slice k to ks) t) e ∙ ap (λ (x : List (List ℕ)). rounds x t) (slice_empty to ks)

pub inv_rounds_turn : (ks : List (List ℕ)) (from i : ℕ) (t u : List ℕ) → from < i → i ≤ length ks → u ≡ inv_round t (round_key ks (i - 1))
    → inv_rounds (slice from (i - 1) ks) u ≡ inv_rounds (slice from i ks) t
inv_rounds_turn ks from i t u h l e =
    let s : suc (i - 1) ≡ i = omega arith in
    ap (inv_rounds (slice from (i - 1) ks)) e ∙ sym (inv_rounds_snoc from (i - 1) ks t (omega arith) (omega arith))
    ∙ ap (λ (k : ℕ). inv_rounds (slice from k ks) t) s

pub inv_rounds_end : (ks : List (List ℕ)) (from i : ℕ) (t : List ℕ) → from ≤ i → i ≤ from → inv_rounds (slice from i ks) t ≡ t
unfolding inv_rounds
inv_rounds_end ks from i t h l =
    let e : i ≡ from = omega arith in
    ap (λ (k : ℕ). inv_rounds (slice from k ks) t) e ∙ ap (λ (x : List (List ℕ)). inv_rounds x t) (slice_empty from ks)
