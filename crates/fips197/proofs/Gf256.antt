-- The field of 256 elements: bounds, and the inverse by seven squarings.
use mathlib.Core.Path.{◌≡◌, refl, sym, ap, ap₂, ◌∙◌}
use Prim.Native.Nat.{ℕ, zero, suc, ◌+◌, ◌<◌}
use native.Mathlib.Nat.{zero-add, suc-add}
use lib.Dec.{lit<}
use Rattle.blocks.proofs.Linear.{Linear}
use Rattle.blocks.proofs.Field.{step_linear, step-lt, mul-lt, mul_right, mul_comm, mul-one, mul_assoc}
use Rattle.fips197.specs.Gf256.{xtimes, gmul, power, inverse}

poly_lt : 0x1b < 256
poly_lt = lit< tt

pub xtimes-lt : (b : ℕ) → xtimes b < 256
xtimes-lt = step-lt 7 0x1b poly_lt

pub xtimes_linear : Linear xtimes
xtimes_linear = step_linear 7 0x1b

pub gmul-lt : (b c : ℕ) → c < 256 → gmul b c < 256
gmul-lt = mul-lt 7 0x1b poly_lt

pub gmul_linear : (b : ℕ) → Linear (gmul b)
gmul_linear = mul_right 7 0x1b

-- ---- powers

pub power-lt : (b n : ℕ) → b < 256 → power b n < 256
unfolding power
power-lt b zero h = lit< tt
power-lt b (suc n) h = gmul-lt b (power b n) (power-lt b n h)

pub power-add : (b m n : ℕ) → b < 256 → gmul (power b m) (power b n) ≡ power b (m + n)
unfolding power
power-add b zero n h =
    let l : power b n < 256 = power-lt b n h in
    mul_comm 7 0x1b 1 (power b n) (lit< tt) l ∙ mul-one 7 0x1b (power b n) l ∙ ap (power b) (sym (zero-add n))
power-add b (suc m) n h =
    mul_assoc 7 0x1b poly_lt b (power b m) (power b n) h (power-lt b m h) (power-lt b n h) ∙ ap (gmul b) (power-add b m n h)
    ∙ ap (power b) (sym (suc-add m n))

-- n times: r times s, and s squared
unfoldable pub squarings : ℕ → ℕ → ℕ → ℕ
squarings zero r s = r
squarings (suc n) r s = squarings n (gmul r s) (gmul s s)

-- the exponent that comes of it, from e and f
exponent : ℕ → ℕ → ℕ → ℕ
exponent zero e f = e
exponent (suc n) e f = exponent n (e + f) (f + f)

squarings_power : (b n e f : ℕ) → b < 256 → squarings n (power b e) (power b f) ≡ power b (exponent n e f)
unfolding squarings exponent
squarings_power b zero e f h = refl
squarings_power b (suc n) e f h =
    ap₂ (squarings n) (power-add b e f h) (power-add b f f h) ∙ squarings_power b n (e + f) (f + f) h

-- 254 is 2 + 4 + .. + 128
pub inverse-by : (b : ℕ) → b < 256 → inverse b ≡ squarings 7 1 (gmul b b)
unfolding inverse power exponent
inverse-by b h =
    sym (ap (squarings 7 1) (ap (gmul b) (sym (mul-one 7 0x1b b h))) ∙ squarings_power b 7 0 2 h)
