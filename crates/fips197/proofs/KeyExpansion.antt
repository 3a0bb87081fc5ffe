-- The key schedule: its words have four bytes, its round keys are blocks, and the ten round constants are successive doublings of 01.
use mathlib.Core.Path.{◌≡◌, refl, sym, ap, ap₂, ◌∙◌}
use mathlib.Core.Bool.{Bool, true, false, cond, ◌&&◌}
use mathlib.Core.List.{List, [], ◌∷◌}
use Prim.Native.Nat.{ℕ, zero, suc, ◌+◌, ◌-◌, ◌*◌, ◌/◌, ◌%◌, ◌≤◌, ◌<◌}
use native.Mathlib.Omega.{arith}
use lib.Dec.{eqb, ltb, lit<}
use lib.ListN.{length, get_or, length-append}
use Rattle.blocks.specs.Bytes.{Bytes, Blocks, xor_bytes}
use Rattle.blocks.specs.Field.{step, steps}
use Rattle.blocks.specs.Tab.{tab}
use Rattle.blocks.proofs.Test.{equal-below}
use Rattle.blocks.proofs.Field.{steps-lt}
use Rattle.blocks.proofs.XorBytes.{length-xor, bytes_xor}
use Rattle.blocks.proofs.Tab.{length-tab, bytes_tab}
use Rattle.blocks.proofs.Chunks.{bytes_append, blocks_of_lem}
use Rattle.fips197.specs.Gf256.{xtimes}
use Rattle.fips197.specs.Sbox.{sbox}
use Rattle.fips197.specs.KeyExpansion.{word, rot_word, sub_word, round_constant, rcon, temp, next_word, words, key_expansion, round_keys}
use Rattle.fips197.proofs.SboxTables.{sbox-lt}

-- ---- words

-- four bytes
record Word (t : List ℕ) : Type 0 where
  long : length t ≡ 4
  bytes : Bytes t

word-xor : (a b : List ℕ) → Word a → Word b → Word (xor_bytes a b)
word-xor a b ha hb =
    let e = ha.long ∙ sym hb.long in
    record { long = length-xor a b e ∙ ha.long; bytes = bytes_xor a b e ha.bytes hb.bytes }

word-tab : (f : ℕ → ℕ) → ((i : ℕ) → f i < 256) → Word (tab 4 f)
word-tab f h = record { long = length-tab 4 f; bytes = bytes_tab 4 f h }

word-word : (w : List ℕ) (i : ℕ) → Bytes w → Word (word w i)
unfolding word
word-word w i h = word-tab (λ j. get_or w (i * 4 + j) 0) (λ j. h (i * 4 + j))

word-sub : (t : List ℕ) → Bytes t → Word (sub_word t)
unfolding sub_word
word-sub t h = word-tab (λ j. sbox (get_or t j 0)) (λ j. sbox-lt (get_or t j 0) (h j))

word_rot : (t : List ℕ) → Bytes t → Word (rot_word t)
unfolding rot_word
word_rot t h = word-tab (λ j. get_or t ((j + 1) % 4) 0) (λ j. h ((j + 1) % 4))

word-rcon : (j : ℕ) → Word (rcon j)
unfolding rcon round_constant
word-rcon j = record { long = refl; bytes = at }
  where
    at : Bytes (steps 7 0x1b (j - 1) 1 ∷ 0 ∷ 0 ∷ 0 ∷ [])
    at zero = steps-lt 7 0x1b (lit< tt) (j - 1) 1 (lit< tt)
    at (suc zero) = lit< tt
    at (suc (suc zero)) = lit< tt
    at (suc (suc (suc zero))) = lit< tt
    at (suc (suc (suc (suc i)))) = lit< tt

-- by the three cases of temp
temp_cases : (P : List ℕ → Type 0) (nk : ℕ) (t : List ℕ) (i : ℕ) → P (xor_bytes (sub_word (rot_word t)) (rcon (i / nk))) → P (sub_word t) → P t → P (temp nk t i)
unfolding temp
temp_cases P nk t i turned subbed kept = pick (eqb (i % nk) 0) (ltb 6 nk && eqb (i % nk) 4)
  where
    pick : (p q : Bool) → P (cond p (xor_bytes (sub_word (rot_word t)) (rcon (i / nk))) (cond q (sub_word t) t))
    pick true q = turned
    pick false true = subbed
    pick false false = kept

word-temp : (nk : ℕ) (t : List ℕ) (i : ℕ) → Word t → Word (temp nk t i)
word-temp nk t i h =
    temp_cases Word nk t i
    (word-xor (sub_word (rot_word t)) (rcon (i / nk)) (word-sub (rot_word t) (word_rot t h.bytes).bytes) (word-rcon (i / nk))) (word-sub t h.bytes) h

-- ---- the schedule

-- whatever its bytes are, a word of it has four
length-temp : (nk : ℕ) (t : List ℕ) (i : ℕ) → length t ≡ 4 → length (temp nk t i) ≡ 4
unfolding sub_word rcon
length-temp nk t i e = temp_cases (λ z. length z ≡ 4) nk t i (length-xor (sub_word (rot_word t)) (rcon (i / nk)) refl) refl e

length-next_word : (nk : ℕ) (w : List ℕ) (i : ℕ) → length (next_word nk w i) ≡ 4
unfolding next_word word
length-next_word nk w i = length-xor (word w (i - nk)) (temp nk (word w (i - 1)) i) (sym (length-temp nk (word w (i - 1)) i refl))

pub length-words : (nk : ℕ) (key : List ℕ) (n : ℕ) → length key ≡ nk * 4 → length (words nk key n) ≡ (nk + n) * 4
unfolding words
length-words nk key zero e = e ∙ omega arith
length-words nk key (suc n) e =
    length-append (words nk key n) (next_word nk (words nk key n) (nk + n))
    ∙ ap₂ (λ (x y : ℕ). x + y) (length-words nk key n e) (length-next_word nk (words nk key n) (nk + n)) ∙ omega arith

bytes_words : (nk : ℕ) (key : List ℕ) (n : ℕ) → Bytes key → Bytes (words nk key n)
unfolding words next_word
bytes_words nk key zero h = h
bytes_words nk key (suc n) h =
    let w = words nk key n in
    let hw = bytes_words nk key n h in
    let i = nk + n in
    bytes_append w (next_word nk w i) hw
    (word-xor (word w (i - nk)) (temp nk (word w (i - 1)) i) (word-word w (i - nk) hw) (word-temp nk (word w (i - 1)) i (word-word w (i - 1) hw))).bytes

-- every round key is a block
pub blocks-round_keys : (nk nr : ℕ) (key : List ℕ) → nk ≤ 4 * (nr + 1) → length key ≡ nk * 4 → Bytes key → Blocks (round_keys nk nr key)
unfolding round_keys key_expansion
blocks-round_keys nk nr key l e h =
    blocks_of_lem (nr + 1) (words nk key (4 * (nr + 1) - nk)) (omega (arith, length-words nk key (4 * (nr + 1) - nk) e)) (bytes_words nk key (4 * (nr + 1) - nk) h)

-- ---- the ten round constants
abbrev pub round_constants : List ℕ
round_constants = 1 ∷ 2 ∷ 4 ∷ 8 ∷ 16 ∷ 32 ∷ 64 ∷ 128 ∷ 27 ∷ 54 ∷ []

-- they are the successive doublings of 01
pub round_constant-first : round_constant 1 ≡ 1
unfolding round_constant steps
round_constant-first = refl

pub round_constant_next : (j : ℕ) → 0 < j → round_constant (suc j) ≡ xtimes (round_constant j)
unfolding round_constant steps
round_constant_next j h =
    let e : suc j - 1 ≡ suc (j - 1) = omega arith in
    ap (λ (k : ℕ). steps 7 0x1b k 1) e

pub round_constant_at : (k : ℕ) → k < 10 → get_or round_constants k 0 ≡ round_constant (k + 1)
unfolding round_constant steps step
round_constant_at = equal-below 10 (λ k. get_or round_constants k 0) (λ k. round_constant (k + 1)) tt
