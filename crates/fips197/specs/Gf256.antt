-- FIPS 197, 4: a byte is a polynomial of degree at most 7 over GF(2), modulo x^8 + x^4 + x^3 + x + 1.
use Rattle.std.specs.Prelude.{ℕ, zero, suc}
use Rattle.blocks.specs.Field.{step, mul}

-- 4.2, XTIMES(b)
abbrev pub xtimes : ℕ → ℕ
xtimes b = step 7 0x1b b

-- 4.2, b • c
abbrev pub gmul : ℕ → ℕ → ℕ
gmul b c = mul 7 0x1b b c

unfoldable pub power : ℕ → ℕ → ℕ
power b zero = 1
power b (suc n) = gmul b (power b n)

-- 4.4: the multiplicative inverse is the power 254, and zero goes to zero
unfoldable pub inverse : ℕ → ℕ
inverse b = power b 254
