-- Lengths alone, whatever the bytes are: under a key of 16 or 32, each half takes 16 to 16.
use mathlib.Core.Path.{◌≡◌, refl, sym, ◌∙◌}
use mathlib.Core.List.{List, [], ◌∷◌}
use Prim.Native.Nat.{ℕ, zero, suc, ◌+◌, ◌-◌, ◌*◌, ◌/◌, ◌≤◌, ◌<◌}
use native.Mathlib.Nat.{suc-mul, not-suc-le-zero, le_of_suc-le-suc}
use native.Mathlib.Omega.{arith}
use lib.ListN.{length, get_or, take, drop, length-take, length-drop}
use lib.Seq.{slice}
use Rattle.blocks.specs.Bytes.{xor_bytes, first_blocks}
use Rattle.blocks.proofs.Chunks.{length-blocks}
use Rattle.blocks.proofs.XorBytes.{length-xor}
use Rattle.fips197.specs.State.{sub_bytes, inv_sub_bytes, shift_rows, mix_columns}
use Rattle.fips197.specs.KeyExpansion.{words, key_expansion, round_keys}
use Rattle.fips197.specs.Cipher.{round, last_round, inv_round, inv_last_round, rounds, inv_rounds}
use Rattle.fips197.specs.Cipher as C
use Rattle.fips197.specs.Aes.{KeyLength, nk_of, nr_of, keys, first_half, second_half, inv_first_half, inv_second_half}
use Rattle.fips197.proofs.KeyExpansion.{length-words}
use Rattle.fips197.proofs.Keys.{whole_words}

-- every element has 16
abbrev pub AllLong : List (List ℕ) → Type 0
AllLong [] = Unit {0}
AllLong (b ∷ bs) = (length b ≡ 16) × AllLong bs

long-take : (n : ℕ) (bs : List (List ℕ)) → AllLong bs → AllLong (take n bs)
long-take zero bs h = tt
long-take (suc n) [] h = tt
long-take (suc n) (b ∷ bs) h = (h.0, long-take n bs h.1)

long-drop : (n : ℕ) (bs : List (List ℕ)) → AllLong bs → AllLong (drop n bs)
long-drop zero bs h = h
long-drop (suc n) [] h = tt
long-drop (suc n) (b ∷ bs) h = long-drop n bs h.1

long-slice : (from to : ℕ) (bs : List (List ℕ)) → AllLong bs → AllLong (slice from to bs)
long-slice from to bs h = long-drop from (take to bs) (long-take to bs h)

long_at : (i : ℕ) (bs : List (List ℕ)) → AllLong bs → i < length bs → length (get_or bs i []) ≡ 16
long_at i [] h l = absurd (not-suc-le-zero l)
long_at zero (b ∷ bs) h l = h.0
long_at (suc i) (b ∷ bs) h l = long_at i bs h.1 (le_of_suc-le-suc l)

pub long-first_blocks : (n : ℕ) (a : List ℕ) → n * 16 ≤ length a → AllLong (first_blocks n a)
unfolding first_blocks
long-first_blocks zero a l = tt
long-first_blocks (suc n) a l =
    let e : suc n * 16 ≡ n * 16 + 16 = suc-mul n 16 in
    (length-take 16 a ∙ omega arith, long-first_blocks n (drop 16 a) (rw length-drop (omega arith)))

-- one round key more than there are rounds
pub enough : (nr : ℕ) (w : List ℕ) → nr < length (first_blocks (nr + 1) w)
enough nr w = rw (length-blocks (nr + 1) w) (omega arith)

-- ---- rounds

length-add : (s k : List ℕ) → length s ≡ 16 → length k ≡ 16 → length (xor_bytes s k) ≡ 16
length-add s k hs hk = length-xor s k (hs ∙ sym hk) ∙ hs

length-rounds : (ks : List (List ℕ)) (s : List ℕ) → AllLong ks → length s ≡ 16 → length (rounds ks s) ≡ 16
unfolding rounds round mix_columns
length-rounds [] s h e = e
length-rounds (k ∷ ks) s h e = length-rounds ks (round s k) h.1 (length-add (mix_columns (shift_rows (sub_bytes s))) k refl h.0)

length-inv_rounds : (ks : List (List ℕ)) (s : List ℕ) → length s ≡ 16 → length (inv_rounds ks s) ≡ 16
unfolding inv_rounds inv_round inv_sub_bytes
length-inv_rounds [] s e = e
length-inv_rounds (k ∷ ks) s e = refl

-- ---- the halves, the first of h rounds, of a cipher of nr

module _ (h nr : ℕ) (ks : List (List ℕ)) (long : AllLong ks) (enough : nr < length ks) where
  pub length-first_half : (s : List ℕ) → length s ≡ 16 → length (C.first_half h ks s) ≡ 16
  unfolding C.first_half
  length-first_half s e =
      length-rounds (slice 1 (suc h) ks) (xor_bytes s (get_or ks 0 [])) (long-slice 1 (suc h) ks long)
      (length-add s (get_or ks 0 []) e (long_at 0 ks long (omega (arith, enough))))

  pub length-second_half : (s : List ℕ) → length (C.second_half h nr ks s) ≡ 16
  unfolding C.second_half last_round shift_rows
  length-second_half s = length-add (shift_rows (sub_bytes (rounds (slice (suc h) nr ks) s))) (get_or ks nr []) refl (long_at nr ks long enough)

  pub length-inv_first_half : (s : List ℕ) → length s ≡ 16 → length (C.inv_first_half h ks s) ≡ 16
  unfolding C.inv_first_half
  length-inv_first_half s e =
      length-add (inv_rounds (slice 1 (suc h) ks) s) (get_or ks 0 []) (length-inv_rounds (slice 1 (suc h) ks) s e)
      (long_at 0 ks long (omega (arith, enough)))

pub length-inv_second_half : (h nr : ℕ) (ks : List (List ℕ)) (s : List ℕ) → length (C.inv_second_half h nr ks s) ≡ 16
unfolding C.inv_second_half inv_last_round inv_sub_bytes
length-inv_second_half h nr ks s = length-inv_rounds (slice (suc h) nr ks) (inv_last_round s (get_or ks nr [])) refl

-- ---- those of AES, under a key of 16 or 32 bytes

pub enough_keys : (key : List ℕ) → nr_of key < length (keys key)
unfolding keys round_keys
enough_keys key = enough (nr_of key) (key_expansion (nk_of key) (nr_of key) key)

module _ (key : List ℕ) (hk : KeyLength key) where
  long-keys : AllLong (keys key)
  unfolding keys round_keys key_expansion
  long-keys =
      let more = 4 * (nr_of key + 1) - nk_of key in
      long-first_blocks (nr_of key + 1) (words (nk_of key) key more) (omega (arith, length-words (nk_of key) key more (whole_words key hk)))

  pub length-first : (s : List ℕ) → length s ≡ 16 → length (first_half key s) ≡ 16
  unfolding first_half
  length-first = length-first_half (nr_of key / 2) (nr_of key) (keys key) long-keys (enough_keys key)

  pub length_second : (s : List ℕ) → length s ≡ 16 → length (second_half key s) ≡ 16
  unfolding second_half
  length_second s e = length-second_half (nr_of key / 2) (nr_of key) (keys key) long-keys (enough_keys key) s

  pub length_inv_first : (s : List ℕ) → length s ≡ 16 → length (inv_first_half key s) ≡ 16
  unfolding inv_first_half
  length_inv_first = length-inv_first_half (nr_of key / 2) (nr_of key) (keys key) long-keys (enough_keys key)

  pub length_inv_second : (s : List ℕ) → length s ≡ 16 → length (inv_second_half key s) ≡ 16
  unfolding inv_second_half
  length_inv_second s e = length-inv_second_half (nr_of key / 2) (nr_of key) (keys key) s
