-- A product from the top bit down, as the code does it in words: of r and n more bits of a comes r x^n + a b.
use mathlib.Core.Path.{◌≡◌, refl, sym, ap, ap₂, ◌∙◌}
use Prim.Native.Nat.{ℕ, suc, ◌+◌, ◌*◌, ◌-◌, ◌/◌, ◌%◌, ◌^◌, ◌≤◌, ◌<◌}
use native.Mathlib.Nat.{mul-add, mul_assoc}
use native.Mathlib.Omega.{arith}
use lib.Bits.{bit_xor, xor_block, xor_lt, xor_zero_r}
use lib.Count.{count_leading_zeros, leading_length}
use mir.Syntax.{w64}
use mir.Val.{Fits}
use Rattle.blocks.specs.Field.{step, steps, times, mul}
use Rattle.blocks.specs.Num.{num, low_bytes}
use Rattle.blocks.specs.Words.{Proper, bytes_of}
use Rattle.blocks.specs.declared.words.Words.{Words}
use Rattle.blocks.proofs.Xor.{xor_assoc}
use Rattle.blocks.proofs.Linear.{at_zero, bit-lt}
use Rattle.blocks.proofs.Field.{step_linear, steps_linear, times_left}
use Rattle.blocks.proofs.Bridge.{block-bytes_of, num-bytes_of}
use Rattle.gf128.specs.Gf128.{times_x, product}
use Rattle.gf128.proofs.Squares.{times_more}
use Rattle.gf128.proofs.NumX.{num-times_x}
use Rattle.gf128.proofs.Product.{product_is}
use Rattle.gf128.proofs.Powers.{one_bit_less}

-- ---- a bit: r x + (bit) b

pub bit_fits : (bit x : ℕ) → bit < 2 → Fits w64 x → Fits w64 (bit * x)
bit_fits bit x h f = record { fits = bit-lt (2 ^ 64) bit x h f.fits }

bit-words : (bit h l : ℕ) → bit * h * 2 ^ 64 + bit * l ≡ bit * (h * 2 ^ 64 + l)
bit-words bit h l = sym (mul-add bit (h * 2 ^ 64) l ∙ ap (λ (z : ℕ). z + bit * l) (sym (mul_assoc bit h (2 ^ 64))))

pub bit_taken : (bit : ℕ) (r b t : Words) → bit < 2 → Proper b → Proper t → bytes_of t ≡ times_x (bytes_of r)
    → num (bytes_of (record { high = bit_xor (bit * b.high) t.high; low = bit_xor (bit * b.low) t.low }))
    ≡ bit_xor (bit * num (bytes_of b)) (step 127 0x87 (num (bytes_of r)))
bit_taken bit r b t k hb ht e =
    let bh : bit * b.high < 2 ^ 64 = bit-lt (2 ^ 64) bit b.high k hb.high in
    let bl : bit * b.low < 2 ^ 64 = bit-lt (2 ^ 64) bit b.low k hb.low in
    num-bytes_of (record { high = bit_xor (bit * b.high) t.high; low = bit_xor (bit * b.low) t.low })
    (record { high = xor_lt 64 (bit * b.high) t.high bh ht.high; low = xor_lt 64 (bit * b.low) t.low bl ht.low })
    ∙ sym (xor_block 64 (bit * b.high) t.high (bit * b.low) t.low bl ht.low)
    ∙ ap₂ bit_xor (bit-words bit b.high b.low ∙ ap (λ (z : ℕ). bit * z) (sym (num-bytes_of b hb)))
    (sym (num-bytes_of t ht) ∙ ap num e ∙ num-times_x (bytes_of r) (block-bytes_of r))

-- ---- a word, bit by bit

-- one bit more
bit_more : (n a r₀ r s b : ℕ) → r ≡ bit_xor (times 127 0x87 n (a / 2) b) (steps 127 0x87 n r₀) → s ≡ bit_xor (a % 2 * b) (step 127 0x87 r)
    → s ≡ bit_xor (times 127 0x87 (suc n) a b) (steps 127 0x87 (suc n) r₀)
unfolding times steps
bit_more n a r₀ r s b h g =
    let t = times 127 0x87 n (a / 2) b in
    let u = steps 127 0x87 n r₀ in
    g ∙ ap (λ (w : ℕ). bit_xor (a % 2 * b) (step 127 0x87 w)) h ∙ ap (bit_xor (a % 2 * b)) (step_linear 127 0x87 t u)
    ∙ sym (xor_assoc (a % 2 * b) (step 127 0x87 t) (step 127 0x87 u))

-- what r₀ has become after all the `bits` low bits of v but `left`
abbrev pub After : ℕ → ℕ → ℕ → ℕ → ℕ → ℕ → Type 0
After bits v b r₀ left r = r ≡ bit_xor (times 127 0x87 (bits - left) (v / 2 ^ left) b) (steps 127 0x87 (bits - left) r₀)

pub after_none : (bits v b r₀ : ℕ) → After bits v b r₀ bits r₀
unfolding times steps
after_none bits v b r₀ =
    let z : 0 ≡ bits - bits = omega arith in
    ap (λ (n : ℕ). bit_xor (times 127 0x87 n (v / 2 ^ bits) b) (steps 127 0x87 n r₀)) z

pub after_more : (bits v b r₀ left r s : ℕ) → 0 < left → left ≤ bits → After bits v b r₀ left r
    → s ≡ bit_xor (v / 2 ^ (left - 1) % 2 * b) (step 127 0x87 r) → After bits v b r₀ (left - 1) s
after_more bits v b r₀ left r s h l e f =
    let n = bits - left in
    let a = v / 2 ^ (left - 1) in
    let g : suc n ≡ bits - (left - 1) = omega arith in
    bit_more n a r₀ r s b (e ∙ ap (λ (z : ℕ). bit_xor (times 127 0x87 n z b) (steps 127 0x87 n r₀)) (sym (one_bit_less v left h))) f
    ∙ ap (λ (m : ℕ). bit_xor (times 127 0x87 m a b) (steps 127 0x87 m r₀)) g

pub after_all_lem : (bits v b r₀ left r : ℕ) → left ≡ 0 → After bits v b r₀ left r → r ≡ bit_xor (times 127 0x87 bits v b) (steps 127 0x87 bits r₀)
after_all_lem bits v b r₀ left r z e =
    let d : v / 1 ≡ v = omega arith in
    let n : bits - 0 ≡ bits = omega arith in
    e ∙ ap (λ (i : ℕ). bit_xor (times 127 0x87 (bits - i) (v / 2 ^ i) b) (steps 127 0x87 (bits - i) r₀)) z
    ∙ ap₂ (λ (i a : ℕ). bit_xor (times 127 0x87 i a b) (steps 127 0x87 i r₀)) n d

-- ---- the zeros at the top

from_nothing : (m a : ℕ) → bit_xor a (steps 127 0x87 m 0) ≡ a
from_nothing m a = ap (bit_xor a) (at_zero (steps 127 0x87 m) (steps_linear 127 0x87 m)) ∙ xor_zero_r a

nothing_above : (m v : ℕ) → v ≡ 0 * 2 ^ m + v
nothing_above m v = omega arith

-- n of them add nothing
top_zeros : (m n v b : ℕ) → v < 2 ^ m → times 127 0x87 (n + m) v b ≡ times 127 0x87 m v b
top_zeros m n v b h =
    let t = times 127 0x87 m v b in
    ap (λ (a : ℕ). times 127 0x87 (n + m) a b) (nothing_above m v)
    ∙ times_more 127 0x87 m n 0 v b h
    ∙ ap (λ (z : ℕ). bit_xor t (steps 127 0x87 m z)) (at_zero (λ a. times 127 0x87 n a b) (times_left 127 0x87 n b))
    ∙ from_nothing m t

abbrev zero-words : Words
zero-words = record { high = 0; low = 0 }

num-zero : num (bytes_of zero-words) ≡ 0
unfolding bytes_of num low_bytes
num-zero = refl

-- a word without its leading zeros, from nothing
pub word_first : (v b q : ℕ) → v < 2 ^ 64
    → q ≡ bit_xor (times 127 0x87 (64 - count_leading_zeros 64 v) v b) (steps 127 0x87 (64 - count_leading_zeros 64 v) (num (bytes_of zero-words)))
    → q ≡ times 127 0x87 64 v b
word_first v b q h e =
    let n = leading_length 64 v h in
    let m = n.0 in
    let k : 64 - count_leading_zeros 64 v ≡ m = omega arith in
    e ∙ ap₂ (λ (i z : ℕ). bit_xor (times 127 0x87 i v b) (steps 127 0x87 i z)) k num-zero
    ∙ from_nothing m (times 127 0x87 m v b)
    ∙ sym (top_zeros m (count_leading_zeros 64 v) v b n.2)
    ∙ ap (λ (i : ℕ). times 127 0x87 i v b) n.1

-- ---- two words

-- the lower one alone
pub product-low : (a b q : Words) → Proper a → a.high ≡ 0 → num (bytes_of q) ≡ times 127 0x87 64 a.low (num (bytes_of b))
    → bytes_of q ≡ product (bytes_of a) (bytes_of b)
unfolding mul
product-low a b q ha z e =
    let n = num (bytes_of b) in
    product_is (bytes_of a) (bytes_of b) (bytes_of q) (block-bytes_of b) (block-bytes_of q)
    (e ∙ sym (top_zeros 64 64 a.low n ha.low)
    ∙ ap (λ (w : ℕ). times 127 0x87 128 w n) (sym (num-bytes_of a ha ∙ ap (λ (h : ℕ). h * 2 ^ 64 + a.low) z ∙ sym (nothing_above 64 a.low))))

-- the upper one, and then the lower one
pub product-words : (a b u q : Words) → Proper a → num (bytes_of u) ≡ times 127 0x87 64 a.high (num (bytes_of b))
    → num (bytes_of q) ≡ bit_xor (times 127 0x87 64 a.low (num (bytes_of b))) (steps 127 0x87 64 (num (bytes_of u)))
    → bytes_of q ≡ product (bytes_of a) (bytes_of b)
unfolding mul
product-words a b u q ha eu eq =
    let n = num (bytes_of b) in
    product_is (bytes_of a) (bytes_of b) (bytes_of q) (block-bytes_of b) (block-bytes_of q)
    (eq ∙ ap (λ (z : ℕ). bit_xor (times 127 0x87 64 a.low n) (steps 127 0x87 64 z)) eu
    ∙ sym (times_more 127 0x87 64 64 a.high a.low n ha.low)
    ∙ ap (λ (z : ℕ). times 127 0x87 128 z n) (sym (num-bytes_of a ha)))
