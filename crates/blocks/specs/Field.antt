-- Polynomials over GF(2) of degree at most k, as numbers below 2^(k + 1): bit i is the coefficient of x^i. They are taken modulo the
-- polynomial x^(k + 1) + p. AES has k = 7 and p = 1B (FIPS 197, 4), the mode k = 127 and p = 87 (source document 000, Table 1).
use Rattle.std.specs.Prelude.{ℕ, zero, suc, ◌*◌, ◌/◌, ◌%◌, ◌^◌}
use Rattle.std.specs.Int.Bits.{bit_xor}

module _ (k p : ℕ) where
  -- a polynomial times x
  unfoldable pub step : ℕ → ℕ
  step a = bit_xor (a * 2 % 2 ^ suc k) (a / 2 ^ k % 2 * p)

  -- times x^n
  unfoldable pub steps : ℕ → ℕ → ℕ
  steps zero a = a
  steps (suc n) a = step (steps n a)

  -- the n low terms of a, times b: where a is a₀ + x a', a b is a₀ b + x (a' b)
  unfoldable pub times : ℕ → ℕ → ℕ → ℕ
  times zero a b = 0
  times (suc n) a b = bit_xor (a % 2 * b) (step (times n (a / 2) b))

  -- the product
  unfoldable pub mul : ℕ → ℕ → ℕ
  mul a b = times (suc k) a b
