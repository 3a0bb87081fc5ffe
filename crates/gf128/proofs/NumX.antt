-- A block's number: multiply by x and the jump are those of the ring on numbers.
use mathlib.Core.Path.{◌≡◌, refl, sym, ap, ap₂, ◌∙◌, subst}
use mathlib.Core.List.{List, [], ◌∷◌}
use Prim.Native.Nat.{ℕ, zero, suc, ◌+◌, ◌*◌, ◌/◌, ◌%◌, ◌^◌, ◌<◌}
use native.Mathlib.Nat.{mul_comm, mul_assoc, add-mul, add_comm, div-add-mod', mod-eq_of_lt, mul-div-mul_right}
use native.Mathlib.Omega.{arith}
use lib.Arith.{digits_div, digits_mod}
use lib.Bits.{bit_xor}
use lib.Dec.{lit<}
use lib.ListN.{length}
use Rattle.blocks.specs.Bytes.{Bytes, Block, zeros}
use Rattle.blocks.specs.Num.{num}
use Rattle.blocks.specs.Field.{step, steps}
use Rattle.blocks.proofs.Num.{wide, num-lt, num-append, num-xor_bytes}
use Rattle.gf128.specs.Gf128.{carry, shift_left, reduction, times_x, jump}
use Rattle.gf128.proofs.TimesX.{carry-lt, low_sum, length_shift, length-reduction, bytes_shift, bytes_reduction, block-jump}

-- ---- a shift

swap : (a k w : ℕ) → a * k * w ≡ a * w * k
swap a k w = mul_assoc a k w ∙ ap (λ (z : ℕ). a * z) (mul_comm k w) ∙ sym (mul_assoc a w k)

carried : (x t w s n : ℕ) → s + t * w ≡ n * 2 → (x % 128 * 2 + t) * w + s + x / 128 * (w * 256) ≡ (x * w + n) * 2
carried x t w s n ih =
    let e : (x % 128 * 2 + t) * w ≡ x % 128 * w * 2 + t * w = add-mul (x % 128 * 2) t w ∙ ap (λ (z : ℕ). z + t * w) (swap (x % 128) 2 w) in
    let f : x / 128 * (w * 256) ≡ x / 128 * w * 256 = sym (mul_assoc (x / 128) w 256) in
    let g : x * w ≡ x / 128 * w * 128 + x % 128 * w =
    ap (λ (z : ℕ). z * w) (sym (div-add-mod' x 128)) ∙ add-mul (x / 128 * 128) (x % 128) w ∙ ap (λ (z : ℕ). z + x % 128 * w) (swap (x / 128) 128 w) in
    omega arith

num_shift : (a : List ℕ) → Bytes a → num (shift_left a) + carry a * 2 ^ (length a * 8) ≡ num a * 2
unfolding num shift_left carry
num_shift [] h = refl
num_shift (x ∷ a) h =
    let b : x / 128 % 2 ≡ x / 128 = omega (arith, h 0) in
    ap (λ (n : ℕ). bit_xor (x * 2 % 256) (carry a) * 2 ^ (n * 8) + num (shift_left a) + x / 128 % 2 * 2 ^ (suc (length a) * 8)) (length_shift a)
    ∙ ap₂ (λ (y t : ℕ). y * 2 ^ (length a * 8) + num (shift_left a) + t * 2 ^ (suc (length a) * 8)) (low_sum x (carry a) (carry-lt a)) b
    ∙ ap (λ (w : ℕ). (x % 128 * 2 + carry a) * 2 ^ (length a * 8) + num (shift_left a) + x / 128 * w) (wide (length a))
    ∙ carried x (carry a) (2 ^ (length a * 8)) (num (shift_left a)) (num a) (num_shift a (λ i. h (suc i)))

num-reduction : (t : ℕ) → num (reduction t) ≡ t * 0x87
unfolding reduction num
num-reduction t = let e : 0 + (t * 0x87 * 1 + 0) ≡ t * 0x87 = omega arith in num-append (zeros 15) (t * 0x87 ∷ []) ∙ e

-- ---- multiply by x, and the jump

module _ (b : List ℕ) (h : Block b) where
  shifted : carry b * 2 ^ 128 + num (shift_left b) ≡ num b * 2
  shifted = add_comm (carry b * 2 ^ 128) (num (shift_left b)) ∙ ap (λ (n : ℕ). num (shift_left b) + carry b * 2 ^ (n * 8)) (sym h.long) ∙ num_shift b h.bytes

  shift_lt : num (shift_left b) < 2 ^ 128
  shift_lt = subst (λ (n : ℕ). num (shift_left b) < 2 ^ (n * 8)) (length_shift b ∙ h.long) (num-lt (shift_left b) (bytes_shift b))

  num-low : num (shift_left b) ≡ num b * 2 % 2 ^ 128
  num-low = sym (digits_mod (carry b) shift_lt) ∙ ap (λ (n : ℕ). n % 2 ^ 128) shifted

  num_top : carry b ≡ num b / 2 ^ 127 % 2
  num_top =
      sym (mod-eq_of_lt (carry-lt b))
      ∙ ap (λ (n : ℕ). n % 2) (sym (digits_div (carry b) shift_lt) ∙ ap (λ (n : ℕ). n / 2 ^ 128) shifted ∙ mul-div-mul_right (num b) (2 ^ 127) (lit< tt))

  pub num-times_x : num (times_x b) ≡ step 127 0x87 (num b)
  unfolding times_x step
  num-times_x =
      num-xor_bytes (shift_left b) (reduction (carry b)) (length_shift b ∙ h.long ∙ sym (length-reduction (carry b))) (bytes_shift b) (bytes_reduction (carry b) (carry-lt b))
      ∙ ap₂ bit_xor num-low (num-reduction (carry b) ∙ ap (λ (n : ℕ). n * 0x87) num_top)

pub num-jump : (n : ℕ) (b : List ℕ) → Block b → num (jump n b) ≡ steps 127 0x87 n (num b)
unfolding jump steps
num-jump zero b h = refl
num-jump (suc n) b h = num-times_x (jump n b) (block-jump n b h) ∙ ap (step 127 0x87) (num-jump n b h)
