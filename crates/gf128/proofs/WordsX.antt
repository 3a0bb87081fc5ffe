-- Multiply and divide by x in two words, as the code does it.
use mathlib.Core.Path.{◌≡◌, sym, ap, ap₂, ◌∙◌}
use Prim.Native.Nat.{ℕ, ◌+◌, ◌*◌, ◌/◌, ◌%◌, ◌^◌, ◌<◌}
use native.Mathlib.Nat.{add-zero, zero-add, mod-lt, mul-mod_left}
use native.Mathlib.Omega.{arith}
use lib.Bits.{bit_xor, xor_block, xor_shifted, xor_lt, xor_mod, xor_zero_r, xor_self}
use lib.Dec.{lit<}
use lib.Pow.{high, low, mod-pow-add, shl-shr, shr-shr}
use Rattle.blocks.specs.Field.{step}
use Rattle.blocks.specs.Words.{Proper, bytes_of}
use Rattle.blocks.specs.declared.words.Words.{Words}
use Rattle.blocks.proofs.Xor.{two_pos, xor_assoc}
use Rattle.blocks.proofs.Bridge.{same-words, block-bytes_of, num-bytes_of, bytes_by_num}
use Rattle.gf128.specs.Gf128.{times_x, over_x}
use Rattle.gf128.proofs.TimesX.{block-times_x}
use Rattle.gf128.proofs.OverX.{over_times}
use Rattle.gf128.proofs.NumX.{num-times_x}

-- ---- multiply by x

-- the upper word: the lower one's top bit comes in
abbrev pub up_x : ℕ → ℕ → ℕ
up_x h l = bit_xor (h * 2 % 2 ^ 64) (l / 2 ^ 63)

-- the lower word: the bit that fell out selects 87
abbrev pub low_x : ℕ → ℕ → ℕ
low_x h l = bit_xor (l * 2 % 2 ^ 64) (h / 2 ^ 63 * 0x87)

low_even : (h : ℕ) → h * 2 % 2 ^ 64 ≡ h % 2 ^ 63 * 2
low_even h = omega arith

low_odd : (h t : ℕ) → t < 2 → (h * 2 + t) % 2 ^ 64 ≡ h * 2 % 2 ^ 64 + t
low_odd h t k =
    let e : (h * 2 + t) / 2 ≡ h = omega arith in
    let f : (h * 2 + t) % 2 ≡ t = omega arith in
    mod-pow-add (h * 2 + t) 63 1 ∙ ap₂ (λ (x y : ℕ). x % 2 ^ 63 * 2 + y) e f ∙ ap (λ (x : ℕ). x + t) (sym (low_even h))

up_sum : (h t : ℕ) → t < 2 → bit_xor (h * 2 % 2 ^ 64) t ≡ h * 2 % 2 ^ 64 + t
up_sum h t k =
    ap (λ (z : ℕ). bit_xor z t) (low_even h) ∙ xor_shifted (h % 2 ^ 63) 1 t k ∙ ap (λ (z : ℕ). z + t) (sym (low_even h))

-- the number of two words, doubled, and its top bit
double_words : (h l : ℕ) → (h * 2 ^ 64 + l) * 2 ≡ (h * 2 + l / 2 ^ 63) * 2 ^ 64 + l * 2 % 2 ^ 64
double_words h l = omega arith

low_double : (h l : ℕ) → l < 2 ^ 64 → (h * 2 ^ 64 + l) * 2 % 2 ^ 128 ≡ (h * 2 % 2 ^ 64 + l / 2 ^ 63) * 2 ^ 64 + l * 2 % 2 ^ 64
low_double h l k =
    let u = h * 2 + l / 2 ^ 63 in
    let r = l * 2 % 2 ^ 64 in
    let lt : r < 2 ^ 64 = mod-lt (l * 2) (lit< tt) in
    let c : l / 2 ^ 63 < 2 = omega arith in
    ap (λ (n : ℕ). n % 2 ^ 128) (double_words h l) ∙ mod-pow-add (u * 2 ^ 64 + r) 64 64
    ∙ ap₂ (λ (x y : ℕ). x % 2 ^ 64 * 2 ^ 64 + y) (high u 64 lt) (low u 64 lt) ∙ ap (λ (x : ℕ). x * 2 ^ 64 + r) (low_odd h (l / 2 ^ 63) c)

top_words : (h l : ℕ) → h < 2 ^ 64 → l < 2 ^ 64 → (h * 2 ^ 64 + l) / 2 ^ 127 % 2 ≡ h / 2 ^ 63
top_words h l hh hl =
    let e : h / 2 ^ 63 % 2 ≡ h / 2 ^ 63 = omega arith in
    ap (λ (z : ℕ). z % 2) (sym (shr-shr (h * 2 ^ 64 + l) 64 63) ∙ ap (λ (z : ℕ). z / 2 ^ 63) (high h 64 hl)) ∙ e

step_words : (h l : ℕ) → h < 2 ^ 64 → l < 2 ^ 64 → up_x h l * 2 ^ 64 + low_x h l ≡ step 127 0x87 (h * 2 ^ 64 + l)
unfolding step
step_words h l hh hl =
    let u = h * 2 % 2 ^ 64 + l / 2 ^ 63 in
    let c : l / 2 ^ 63 < 2 = omega arith in
    let k : h / 2 ^ 63 * 0x87 < 2 ^ 64 = omega arith in
    ap (λ (z : ℕ). z * 2 ^ 64 + low_x h l) (up_sum h (l / 2 ^ 63) c ∙ sym (xor_zero_r u))
    ∙ sym (xor_block 64 u 0 (l * 2 % 2 ^ 64) (h / 2 ^ 63 * 0x87) (mod-lt (l * 2) (lit< tt)) k)
    ∙ ap₂ bit_xor (sym (low_double h l hl)) (zero-add (h / 2 ^ 63 * 0x87) ∙ ap (λ (z : ℕ). z * 0x87) (sym (top_words h l hh hl)))

pub times_x-words : (w : Words) → Proper w → bytes_of (record { high = up_x w.high w.low; low = low_x w.high w.low }) ≡ times_x (bytes_of w)
times_x-words w p =
    let h = w.high in
    let l = w.low in
    let hh : h < 2 ^ 64 = p.high in
    let hl : l < 2 ^ 64 = p.low in
    bytes_by_num (record { high = up_x h l; low = low_x h l }) (times_x (bytes_of w))
    (record {
      high = xor_lt 64 (h * 2 % 2 ^ 64) (l / 2 ^ 63) (mod-lt (h * 2) (lit< tt)) (omega arith);
      low = xor_lt 64 (l * 2 % 2 ^ 64) (h / 2 ^ 63 * 0x87) (mod-lt (l * 2) (lit< tt)) (omega arith);
    })
    (block-times_x (bytes_of w) (block-bytes_of w).long)
    (step_words h l hh hl ∙ sym (num-times_x (bytes_of w) (block-bytes_of w) ∙ ap (step 127 0x87) (num-bytes_of w p)))

-- ---- divide by x: multiplying gives the words back

-- the upper word: a one comes in where the low bit is set
abbrev pub up_over : ℕ → ℕ → ℕ
up_over h l = bit_xor (l % 2 * 2 ^ 63 % 2 ^ 64) (h / 2)

-- the lower word: the polynomial is added, and the upper one's low bit comes in
abbrev pub low_over : ℕ → ℕ → ℕ
low_over h l = bit_xor (h * 2 ^ 63 % 2 ^ 64) (bit_xor l (l % 2 * 0x87) / 2)

-- with the polynomial added the lower word is even, since 87 is odd
even : (l : ℕ) → bit_xor l (l % 2 * 0x87) / 2 * 2 ≡ bit_xor l (l % 2 * 0x87)
even l =
    let x = bit_xor l (l % 2 * 0x87) in
    let f : l % 2 * 0x87 % 2 ≡ l % 2 = omega arith in
    let z : x % 2 ≡ 0 = xor_mod l (l % 2 * 0x87) 1 ∙ ap (bit_xor (l % 2)) f ∙ xor_self (l % 2) in
    omega (arith, z)

-- a low bit moved to the top, and a top bit moved out
to_top : (h : ℕ) → h * 2 ^ 63 % 2 ^ 64 ≡ h % 2 * 2 ^ 63
to_top h =
    mod-pow-add (h * 2 ^ 63) 1 63 ∙ ap₂ (λ (x y : ℕ). x % 2 * 2 ^ 63 + y) (shl-shr h 63) (mul-mod_left h (2 ^ 63)) ∙ add-zero (h % 2 * 2 ^ 63)

from_top : (t q : ℕ) → q < 2 ^ 63 → (t * 2 ^ 63 + q) * 2 % 2 ^ 64 ≡ q * 2
from_top t q k =
    let e : (t * 2 ^ 63 + q) * 2 ≡ t * 2 ^ 64 + q * 2 = omega arith in
    let lt : q * 2 < 2 ^ 64 = omega arith in
    ap (λ (n : ℕ). n % 2 ^ 64) e ∙ low t 64 lt

module _ (h l : ℕ) (hh : h < 2 ^ 64) (hl : l < 2 ^ 64) where
  half : ℕ
  half = bit_xor l (l % 2 * 0x87) / 2

  half_lt : half < 2 ^ 63
  unfolding half
  half_lt =
      let k : bit_xor l (l % 2 * 0x87) < 2 ^ 64 = xor_lt 64 l (l % 2 * 0x87) hl (omega arith) in
      omega arith

  up_over_lem : up_over h l ≡ l % 2 * 2 ^ 63 + h / 2
  up_over_lem =
      let e : l % 2 * 2 ^ 63 % 2 ^ 64 ≡ l % 2 * 2 ^ 63 = omega arith in
      ap (λ (z : ℕ). bit_xor z (h / 2)) e ∙ xor_shifted (l % 2) 63 (h / 2) (omega arith)

  low_over_lem : low_over h l ≡ h % 2 * 2 ^ 63 + half
  unfolding half
  low_over_lem =
      ap (λ (z : ℕ). bit_xor z (bit_xor l (l % 2 * 0x87) / 2)) (to_top h) ∙ xor_shifted (h % 2) 63 (bit_xor l (l % 2 * 0x87) / 2) half_lt

  up_back : up_x (up_over h l) (low_over h l) ≡ h
  up_back =
      let k : half < 2 ^ 63 = half_lt in
      let q : h / 2 < 2 ^ 63 = omega arith in
      let f : (h % 2 * 2 ^ 63 + half) / 2 ^ 63 ≡ h % 2 = omega arith in
      let g : h / 2 * 2 + h % 2 ≡ h = omega arith in
      ap₂ up_x up_over_lem low_over_lem ∙ ap₂ bit_xor (from_top (l % 2) (h / 2) q) f ∙ xor_shifted (h / 2) 1 (h % 2) (mod-lt h two_pos) ∙ g

  low_back : low_x (up_over h l) (low_over h l) ≡ l
  unfolding half
  low_back =
      let k : half < 2 ^ 63 = half_lt in
      let p = l % 2 * 0x87 in
      let f : (l % 2 * 2 ^ 63 + h / 2) / 2 ^ 63 ≡ l % 2 = omega arith in
      ap₂ low_x up_over_lem low_over_lem ∙ ap₂ (λ (x y : ℕ). bit_xor x (y * 0x87)) (from_top (h % 2) half half_lt ∙ even l) f
      ∙ xor_assoc l p p ∙ ap (bit_xor l) (xor_self p) ∙ xor_zero_r l

  over_lt : Proper (record { high = up_over h l; low = low_over h l })
  unfolding half
  over_lt =
      record {
        high = xor_lt 64 (l % 2 * 2 ^ 63 % 2 ^ 64) (h / 2) (mod-lt (l % 2 * 2 ^ 63) (lit< tt)) (omega arith);
        low = xor_lt 64 (h * 2 ^ 63 % 2 ^ 64) (bit_xor l (l % 2 * 0x87) / 2) (mod-lt (h * 2 ^ 63) (lit< tt)) (let k : half < 2 ^ 63 = half_lt in omega arith);
      }

pub over_x-words : (w : Words) → Proper w → bytes_of (record { high = up_over w.high w.low; low = low_over w.high w.low }) ≡ over_x (bytes_of w)
over_x-words w p =
    let h = w.high in
    let l = w.low in
    let r : Words = record { high = up_over h l; low = low_over h l } in
    let back : Words = record { high = up_x r.high r.low; low = low_x r.high r.low } in
    sym (over_times (bytes_of r) (block-bytes_of r))
    ∙ ap over_x
    (sym (times_x-words r (over_lt h l p.high p.low))
    ∙ ap bytes_of (same-words back w (up_back h l p.high p.low) (low_back h l p.high p.low)))
