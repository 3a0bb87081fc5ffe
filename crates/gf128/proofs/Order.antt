-- HOW FAR A BLOCK CAN BE MULTIPLIED BY x BEFORE A VALUE COMES AGAIN. N = 2^128 - 1 is a period of every block, since x^N is 1. Let d be a period
-- too, 0 < d < 6,700,417. N is 6,700,417 times m, and 6,700,417 is a prime, so m is a period. But x^m + 1 has an inverse: the block is zero.
use mathlib.Core.Path.{◌≡◌, sym, ap, ap₂, subst, ◌∙◌}
use mathlib.Core.List.{List}
use Prim.Native.Nat.{ℕ, ◌+◌, ◌-◌, ◌^◌, ◌<◌}
use native.Mathlib.Nat.{mul_comm}
use native.Mathlib.Omega.{arith}
use lib.Bits.{bit_xor}
use lib.Dec.{lit<}
use lib.IntN.{pos}
use Rattle.blocks.specs.Bytes.{Block, zeros, xor_bytes}
use Rattle.blocks.specs.Num.{low_bytes}
use Rattle.blocks.specs.Field.{mul}
use Rattle.blocks.proofs.XorBytes.{xor_bytes_self, block-xor}
use Rattle.blocks.proofs.Num.{same_block, num-xor, block-low_bytes, num-low_bytes_lem}
use Rattle.gf128.specs.Gf128.{jump, jump_by, product, one, power}
use Rattle.gf128.specs.Order.{DistinctJumps}
use Rattle.gf128.proofs.TimesX.{block-zero, block_one, block-jump, jump-zero, jump-add}
use Rattle.gf128.proofs.JumpBy.{block-power, jump_injective}
use Rattle.gf128.proofs.Product.{block-product, num-product, num-one, product_comm, product_assoc, product_xor_left, product-zero, product-one, product-power}
use Rattle.gf128.proofs.Prime.{prime_6700417}
use Rattle.gf128.proofs.Periods.{Period, period_times, by-steps}
use Rattle.gf128.proofs.LargePowers.{power-whole, power_cofactor, inverse_cofactor}

-- m, and the inverse of x^m + 1
abbrev cofactor : ℕ
cofactor = 50785252159819077448966923615615

abbrev inverse : List ℕ
inverse = low_bytes 16 0xfb9043b5b964d0d44ce89147bf2b6a67

inverse_is : product inverse (xor_bytes (power (pos cofactor)) one) ≡ one
inverse_is =
    let x = power (pos cofactor) in
    let hx = block-power (pos cofactor) in
    same_block (block-product inverse (xor_bytes x one)) block_one
    (num-product inverse (xor_bytes x one) (block-xor x one hx block_one)
    ∙ ap₂ (mul 127 0x87) (num-low_bytes_lem 0xfb9043b5b964d0d44ce89147bf2b6a67 (lit< tt)) (num-xor x one hx block_one ∙ ap₂ bit_xor power_cofactor num-one)
    ∙ inverse_cofactor ∙ sym num-one)

module _ (b : List ℕ) (hb : Block b) where
  one-times : product one b ≡ b
  one-times = product_comm one b block_one hb ∙ product-one b hb

  -- a jump by n is the product with x^n
  jump-product : (n : ℕ) → jump n b ≡ product (power (pos n)) b
  unfolding jump_by
  jump-product n = sym (product-power (pos n) b hb)

  -- after N multiplications every value comes again
  pub full_turn : Period b (2 ^ 128 - 1)
  full_turn =
      jump-product (2 ^ 128 - 1)
      ∙ ap (λ (x : List ℕ). product x b) (same_block (block-power (pos (2 ^ 128 - 1))) block_one (power-whole ∙ sym num-one)) ∙ one-times

  cofactor_zero : Period b cofactor → b ≡ zeros 16
  cofactor_zero h =
      let x = power (pos cofactor) in
      let hx = block-power (pos cofactor) in
      let s : product (xor_bytes x one) b ≡ zeros 16 =
      product_xor_left x one b hx block_one hb ∙ ap₂ xor_bytes (sym (jump-product cofactor) ∙ h) one-times ∙ xor_bytes_self b ∙ ap zeros hb.long in
      sym one-times ∙ ap (λ (z : List ℕ). product z b) (sym inverse_is)
      ∙ product_assoc inverse (xor_bytes x one) b (block-low_bytes 0xfb9043b5b964d0d44ce89147bf2b6a67) (block-xor x one hx block_one) hb ∙ ap (product inverse) s ∙ product-zero inverse

  period_zero : (d : ℕ) → 0 < d → d < 6700417 → Period b d → b ≡ zeros 16
  period_zero d positive lt h =
      cofactor_zero
      (by-steps b 6700417 cofactor prime_6700417 full_turn d positive lt (subst (λ (n : ℕ). Period b n) (mul_comm cofactor d) (period_times b cofactor d h)))

  -- two equal values are a period apart
  equal-apart : (i j : ℕ) → i < j → jump i b ≡ jump j b → Period b (j - i)
  equal-apart i j l e =
      let f : i + (j - i) ≡ j = omega arith in
      jump_injective i (jump (j - i) b) b (block-jump (j - i) b hb) hb (sym (jump-add i (j - i) b) ∙ ap (λ (n : ℕ). jump n b) f ∙ sym e)

pub distinct_jumps : DistinctJumps
distinct_jumps b hb h =
    record {
      nonzero = λ i l e. h (jump_injective i b (zeros 16) hb block-zero (e ∙ sym (jump-zero i)));
      different = λ i j l k e. h (period_zero b hb (j - i) (omega arith) (omega arith) (equal-apart b hb i j l e));
    }
