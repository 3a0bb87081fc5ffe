-- A power of x by repeated squaring, as the code does it: a square is two halves of spread bits, and the upper one, which stands for
-- x^128 times its block, is brought down by x^64 twice, with x^128 = x^7 + x^2 + x + 1.
use mathlib.Core.Path.{◌≡◌, refl, sym, ap, ap₂, ◌∙◌}
use mathlib.Core.Bool.{Bool}
use mathlib.Core.List.{List}
use Prim.Native.Nat.{ℕ, ◌+◌, ◌*◌, ◌-◌, ◌/◌, ◌%◌, ◌^◌, ◌≤◌, ◌<◌}
use native.Mathlib.Nat.{mul_comm, mod-lt, lt_trans}
use native.Mathlib.Omega.{arith}
use lib.Pow.{pow-add, split, shl-shr, shr-shr}
use lib.Bits.{bit_xor, xor_block, xor_shifted, xor_lt, xor_comm}
use lib.Dec.{lit<}
use lib.IntN.{ℤ, ◌+ℤ◌}
use Rattle.blocks.specs.Bytes.{xor_bytes}
use Rattle.blocks.specs.Field.{step, steps, mul}
use Rattle.blocks.specs.Num.{num}
use Rattle.blocks.specs.Words.{Proper, bytes_of}
use Rattle.blocks.specs.declared.words.Words.{Words}
use Rattle.blocks.proofs.Xor.{xor_assoc}
use Rattle.blocks.proofs.Linear.{places, basis}
use Rattle.blocks.proofs.Field.{steps_linear, steps-add, steps-one, mul_right, mul-one, mul-steps}
use Rattle.blocks.proofs.Num.{block-lt, num-xor}
use Rattle.blocks.proofs.Bridge.{block-bytes_of, num-bytes_of, bytes_by_num}
use Rattle.gf128.specs.Gf128.{jump, jump_by, signed, product, one, power}
use Rattle.gf128.specs.Spread.{spread}
use Rattle.gf128.proofs.Squares.{spread_more, square_halves}
use Rattle.gf128.proofs.TimesX.{jump-add, block-jump, block_one}
use Rattle.gf128.proofs.JumpBy.{block-power, jump_by-add, signed_add}
use Rattle.gf128.proofs.NumX.{num-jump}
use Rattle.gf128.proofs.Product.{poly_lt, product_is, product-power}

-- ---- x^128 times a block

-- a step at the top bit, computed
over : steps 127 0x87 1 (2 ^ 127) ≡ bit_xor 1 (bit_xor 2 (bit_xor 4 128))
unfolding steps step
over = refl

pub fold128 : (h : ℕ) → h < 2 ^ 128
    → steps 127 0x87 128 h ≡ bit_xor h (bit_xor (steps 127 0x87 1 h) (bit_xor (steps 127 0x87 2 h) (steps 127 0x87 7 h)))
fold128 h l =
    ap (steps 127 0x87 128) (sym (mul-one 127 0x87 h l)) ∙ sym (mul-steps 127 0x87 128 h 1) ∙ ap (mul 127 0x87 h) top
    ∙ mul_right 127 0x87 h 1 (bit_xor 2 (bit_xor 4 128))
    ∙ ap₂ bit_xor (mul-one 127 0x87 h l)
    (mul_right 127 0x87 h 2 (bit_xor 4 128) ∙ ap₂ bit_xor (by_pow 1 (lit< tt)) (mul_right 127 0x87 h 4 128 ∙ ap₂ bit_xor (by_pow 2 (lit< tt)) (by_pow 7 (lit< tt))))
  where
    top : steps 127 0x87 128 1 ≡ bit_xor 1 (bit_xor 2 (bit_xor 4 128))
    top = steps-add 127 0x87 1 127 1 ∙ ap (steps 127 0x87 1) (steps-one 127 0x87 127 (lit< tt)) ∙ over

    by_pow : (i : ℕ) → i < 128 → mul 127 0x87 h (2 ^ i) ≡ steps 127 0x87 i h
    by_pow i k = ap (mul 127 0x87 h) (sym (steps-one 127 0x87 i k)) ∙ mul-steps 127 0x87 i h 1 ∙ ap (steps 127 0x87 i) (mul-one 127 0x87 h l)

-- ---- x^64 times a block, in words

-- x^k times a word that stays below the top
steps-word : (k x : ℕ) → k ≤ 64 → x < 2 ^ 64 → steps 127 0x87 k x ≡ x * 2 ^ k
steps-word k x l =
    basis 64 (steps 127 0x87 k) (λ z. z * 2 ^ k) (steps_linear 127 0x87 k) (places k)
    (λ i h. ap (steps 127 0x87 k) (sym (steps-one 127 0x87 i (omega arith))) ∙ sym (steps-add 127 0x87 k i 1)
    ∙ steps-one 127 0x87 (k + i) (omega arith) ∙ pow-add 2 k i ∙ mul_comm (2 ^ k) (2 ^ i)) x

-- what of a word k places up is above it
above : (k j h : ℕ) → h * 2 ^ k ≡ h / 2 ^ j * 2 ^ (k + j) + h * 2 ^ k % 2 ^ (k + j)
above k j h =
    sym (split (h * 2 ^ k) (k + j))
    ∙ ap (λ (z : ℕ). z * 2 ^ (k + j) + h * 2 ^ k % 2 ^ (k + j)) (sym (shr-shr (h * 2 ^ k) k j) ∙ ap (λ (z : ℕ). z / 2 ^ j) (shl-shr h k))

-- the two words
abbrev pub up64 : ℕ → ℕ → ℕ
up64 h l = bit_xor (bit_xor (bit_xor l (h / 2 ^ 63)) (h / 2 ^ 62)) (h / 2 ^ 57)

abbrev pub low64 : ℕ → ℕ
low64 h = bit_xor (bit_xor (bit_xor h (h * 2 % 2 ^ 64)) (h * 4 % 2 ^ 64)) (h * 128 % 2 ^ 64)

module _ (h l : ℕ) (hh : h < 2 ^ 64) (hl : l < 2 ^ 64) where
  -- the lower word moves up, and the upper one is folded
  steps64 : steps 127 0x87 64 (h * 2 ^ 64 + l) ≡ bit_xor (l * 2 ^ 64) (bit_xor h (bit_xor (h * 2) (bit_xor (h * 4) (h * 128))))
  steps64 =
      ap (steps 127 0x87 64) (sym (xor_shifted h 64 l hl)) ∙ steps_linear 127 0x87 64 (h * 2 ^ 64) l
      ∙ xor_comm (steps 127 0x87 64 (h * 2 ^ 64)) (steps 127 0x87 64 l)
      ∙ ap₂ bit_xor (steps-word 64 l (omega arith) hl)
      (ap (steps 127 0x87 64) (sym (steps-word 64 h (omega arith) hh)) ∙ sym (steps-add 127 0x87 64 64 h) ∙ fold128 h (lt_trans hh (lit< tt))
      ∙ ap (bit_xor h) (ap₂ bit_xor (steps-word 1 h (omega arith) hh) (ap₂ bit_xor (steps-word 2 h (omega arith) hh) (steps-word 7 h (omega arith) hh))))

  join64 : up64 h l * 2 ^ 64 + low64 h ≡ bit_xor (l * 2 ^ 64) (bit_xor h (bit_xor (h * 2) (bit_xor (h * 4) (h * 128))))
  join64 =
      let b1 : h * 2 % 2 ^ 64 < 2 ^ 64 = mod-lt (h * 2) (lit< tt) in
      let b2 : h * 4 % 2 ^ 64 < 2 ^ 64 = mod-lt (h * 4) (lit< tt) in
      let b7 : h * 128 % 2 ^ 64 < 2 ^ 64 = mod-lt (h * 128) (lit< tt) in
      let l1 = bit_xor h (h * 2 % 2 ^ 64) in
      let l2 = bit_xor l1 (h * 4 % 2 ^ 64) in
      let c1 : l1 < 2 ^ 64 = xor_lt 64 h (h * 2 % 2 ^ 64) hh b1 in
      let c2 : l2 < 2 ^ 64 = xor_lt 64 l1 (h * 4 % 2 ^ 64) c1 b2 in
      let u1 = bit_xor l (h / 2 ^ 63) in
      sym (xor_block 64 (bit_xor u1 (h / 2 ^ 62)) (h / 2 ^ 57) l2 (h * 128 % 2 ^ 64) c2 b7)
      ∙ ap₂ bit_xor
      (sym (xor_block 64 u1 (h / 2 ^ 62) l1 (h * 4 % 2 ^ 64) c1 b2)
      ∙ ap₂ bit_xor
      (sym (xor_block 64 l (h / 2 ^ 63) h (h * 2 % 2 ^ 64) hh b1) ∙ ap₂ bit_xor (sym (xor_shifted l 64 h hh)) (sym (above 1 63 h)))
      (sym (above 2 62 h)))
      (sym (above 7 57 h))
      ∙ xor_assoc (bit_xor (bit_xor (l * 2 ^ 64) h) (h * 2)) (h * 4) (h * 128)
      ∙ xor_assoc (bit_xor (l * 2 ^ 64) h) (h * 2) (bit_xor (h * 4) (h * 128))
      ∙ xor_assoc (l * 2 ^ 64) h (bit_xor (h * 2) (bit_xor (h * 4) (h * 128)))

  proper64 : Proper (record { high = up64 h l; low = low64 h })
  proper64 =
      record {
        high = xor_lt 64 (bit_xor (bit_xor l (h / 2 ^ 63)) (h / 2 ^ 62)) (h / 2 ^ 57)
            (xor_lt 64 (bit_xor l (h / 2 ^ 63)) (h / 2 ^ 62) (xor_lt 64 l (h / 2 ^ 63) hl (omega arith)) (omega arith)) (omega arith);
        low = xor_lt 64 (bit_xor (bit_xor h (h * 2 % 2 ^ 64)) (h * 4 % 2 ^ 64)) (h * 128 % 2 ^ 64)
            (xor_lt 64 (bit_xor h (h * 2 % 2 ^ 64)) (h * 4 % 2 ^ 64) (xor_lt 64 h (h * 2 % 2 ^ 64) hh (mod-lt (h * 2) (lit< tt))) (mod-lt (h * 4) (lit< tt)))
            (mod-lt (h * 128) (lit< tt));
      }

pub jump64_words : (w : Words) → Proper w → bytes_of (record { high = up64 w.high w.low; low = low64 w.high }) ≡ jump 64 (bytes_of w)
jump64_words w p =
    let h = w.high in
    let l = w.low in
    bytes_by_num (record { high = up64 h l; low = low64 h }) (jump 64 (bytes_of w)) (proper64 h l p.high p.low)
    (block-jump 64 (bytes_of w) (block-bytes_of w))
    (join64 h l p.high p.low ∙ sym (steps64 h l p.high p.low)
    ∙ sym (num-jump 64 (bytes_of w) (block-bytes_of w) ∙ ap (steps 127 0x87 64) (num-bytes_of w p)))

-- ---- squares and powers

-- the bits of a word moved apart are two words
spread-word : (x : ℕ) → spread 64 x ≡ spread 32 (x / 2 ^ 32) * 2 ^ 64 + spread 32 (x % 2 ^ 32)
spread-word x = ap (spread 64) (sym (split x 32)) ∙ spread_more 32 32 (x / 2 ^ 32) (x % 2 ^ 32) (mod-lt x (lit< tt))

-- so are two words, with the upper one's above
pub squared : (b h l m r q : Words) → Proper b → Proper h → Proper l
    → h.high ≡ spread 32 (b.high / 2 ^ 32) → h.low ≡ spread 32 (b.high % 2 ^ 32)
    → l.high ≡ spread 32 (b.low / 2 ^ 32) → l.low ≡ spread 32 (b.low % 2 ^ 32)
    → bytes_of m ≡ jump 64 (bytes_of h) → bytes_of r ≡ jump 64 (bytes_of m) → bytes_of q ≡ xor_bytes (bytes_of l) (bytes_of r)
    → bytes_of q ≡ product (bytes_of b) (bytes_of b)
squared b h l m r q pb ph pl hh hl lh ll em er eq =
    let nh : num (bytes_of h) ≡ spread 64 b.high = num-bytes_of h ph ∙ ap₂ (λ (x y : ℕ). x * 2 ^ 64 + y) hh hl ∙ sym (spread-word b.high) in
    let nl : num (bytes_of l) ≡ spread 64 b.low = num-bytes_of l pl ∙ ap₂ (λ (x y : ℕ). x * 2 ^ 64 + y) lh ll ∙ sym (spread-word b.low) in
    let e : bytes_of r ≡ jump 128 (bytes_of h) = er ∙ ap (jump 64) em ∙ sym (jump-add 64 64 (bytes_of h)) in
    product_is (bytes_of b) (bytes_of b) (bytes_of q) (block-bytes_of b) (block-bytes_of q)
    (ap num eq ∙ num-xor (bytes_of l) (bytes_of r) (block-bytes_of l) (block-bytes_of r)
    ∙ ap (bit_xor (num (bytes_of l))) (ap num e ∙ num-jump 128 (bytes_of h) (block-bytes_of h))
    ∙ square_halves 127 0x87 poly_lt (num (bytes_of b)) (num (bytes_of h)) (num (bytes_of l)) (block-lt (bytes_of b) (block-bytes_of b))
    (ap (spread 128) (num-bytes_of b pb) ∙ spread_more 64 64 b.high b.low pb.low ∙ ap₂ (λ (x y : ℕ). x * 2 ^ 128 + y) (sym nh) (sym nl))
    (block-lt (bytes_of h) (block-bytes_of h)) (block-lt (bytes_of l) (block-bytes_of l)))

-- the square of x^d, times x^e
square_times : (d e : ℤ) → jump_by e (product (power d) (power d)) ≡ power (e +ℤ (d +ℤ d))
unfolding power
square_times d e =
    ap (jump_by e) (product-power d (power d) (block-power d) ∙ sym (jump_by-add d d one block_one)) ∙ sym (jump_by-add e (d +ℤ d) one block_one)

-- from the power n / 2 to the power n, either way
pub power_half : (back : Bool) (n : ℕ) (q : List ℕ) → q ≡ power (signed back (n / 2)) → jump_by (signed back (n % 2)) (product q q) ≡ power (signed back n)
power_half back n q e =
    let d = signed back (n / 2) in
    let m : n % 2 + (n / 2 + n / 2) ≡ n = omega arith in
    ap (λ (z : List ℕ). jump_by (signed back (n % 2)) (product z z)) e ∙ square_times d (signed back (n % 2))
    ∙ ap power (ap (λ (z : ℤ). signed back (n % 2) +ℤ z) (sym (signed_add back (n / 2) (n / 2))) ∙ sym (signed_add back (n % 2) (n / 2 + n / 2)) ∙ ap (signed back) m)

-- n without its j low bits, and without one more
pub one_bit_less : (n j : ℕ) → 0 < j → n / 2 ^ (j - 1) / 2 ≡ n / 2 ^ j
one_bit_less n j h = shr-shr n (j - 1) 1 ∙ ap (λ (k : ℕ). n / 2 ^ k) (let e : j - 1 + 1 ≡ j = omega arith in e)
