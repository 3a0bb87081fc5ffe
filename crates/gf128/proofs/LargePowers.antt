-- Powers of x with large exponents, computed as numbers by squares and steps, a bit of the exponent at a time.
use mathlib.Core.Path.{◌≡◌, refl, sym, ap, ap₂, ◌∙◌}
use mathlib.Core.Bool.{false}
use Prim.Native.Nat.{ℕ, zero, suc, ◌*◌, ◌-◌, ◌/◌, ◌%◌, ◌^◌, ◌<◌}
use native.Mathlib.Nat.{mod-lt, div-add-mod', div-lt_iff_lt-mul}
use lib.Arith.{lt-one}
use lib.Bits.{bit_xor, xor_comm}
use lib.Dec.{lit<}
use lib.IntN.{pos}
use Rattle.blocks.specs.Field.{step, steps, times, mul}
use Rattle.blocks.specs.Num.{num}
use Rattle.blocks.proofs.Linear.{half_lt}
use Rattle.blocks.proofs.Num.{block-lt}
use Rattle.gf128.specs.Gf128.{jump, jump_by, signed, product, power}
use Rattle.gf128.specs.Spread.{spread}
use Rattle.gf128.proofs.Squares.{spread-lt, square_halves}
use Rattle.gf128.proofs.JumpBy.{block-power}
use Rattle.gf128.proofs.NumX.{num-jump}
use Rattle.gf128.proofs.Product.{poly_lt, block-product, num-product, num-one}
use Rattle.gf128.proofs.Powers.{fold128, power_half}

-- ---- steps

-- A step, with the number that has few digits first: an exclusive or is computed in as many steps as its first number has digits.
quick_step : ℕ → ℕ
quick_step a = bit_xor (a / 2 ^ 127 % 2 * 0x87) (a * 2 % 2 ^ 128)

quick_steps : ℕ → ℕ → ℕ
quick_steps zero a = a
quick_steps (suc n) a = quick_step (quick_steps n a)

quick_steps_lem : (n a : ℕ) → quick_steps n a ≡ steps 127 0x87 n a
unfolding quick_steps quick_step steps step
quick_steps_lem zero a = refl
quick_steps_lem (suc n) a =
    ap (λ (b : ℕ). bit_xor (b / 2 ^ 127 % 2 * 0x87) (b * 2 % 2 ^ 128)) (quick_steps_lem n a)
    ∙ xor_comm (steps 127 0x87 n a / 2 ^ 127 % 2 * 0x87) (steps 127 0x87 n a * 2 % 2 ^ 128)

-- ---- squares

-- the two halves of the spread bits, the upper one brought down by x^128
folded : ℕ → ℕ → ℕ
folded h l = bit_xor l (bit_xor h (bit_xor (quick_steps 1 h) (bit_xor (quick_steps 2 h) (quick_steps 7 h))))

squared : ℕ → ℕ
squared a = folded (spread 128 a / 2 ^ 128) (spread 128 a % 2 ^ 128)

folded_is : (h l : ℕ) → h < 2 ^ 128 → folded h l ≡ bit_xor l (steps 127 0x87 128 h)
unfolding folded
folded_is h l k =
    ap (bit_xor l)
    (ap (bit_xor h) (ap₂ bit_xor (quick_steps_lem 1 h) (ap₂ bit_xor (quick_steps_lem 2 h) (quick_steps_lem 7 h))) ∙ sym (fold128 h k))

squared_is : (a : ℕ) → a < 2 ^ 128 → squared a ≡ mul 127 0x87 a a
unfolding squared
squared_is a k =
    let w = spread 128 a in
    let top : w / 2 ^ 128 < 2 ^ 128 = (div-lt_iff_lt-mul (lit< tt)).1 (spread-lt 128 a) in
    folded_is (w / 2 ^ 128) (w % 2 ^ 128) top
    ∙ square_halves 127 0x87 poly_lt a (w / 2 ^ 128) (w % 2 ^ 128) k (sym (div-add-mod' w (2 ^ 128))) top (mod-lt w (lit< tt))

-- ---- powers

-- the number of x^n, for n of k bits
power_of : ℕ → ℕ → ℕ
power_of zero n = 1
power_of (suc k) n = quick_steps (n % 2) (squared (power_of k (n / 2)))

power_of_is : (k n : ℕ) → n < 2 ^ k → num (power (pos n)) ≡ power_of k n
unfolding power_of power jump_by signed jump
power_of_is zero n h = ap (λ (z : ℕ). num (power (pos z))) (lt-one h) ∙ num-one
power_of_is (suc k) n h =
    let q = power (pos (n / 2)) in
    let hq = block-power (pos (n / 2)) in
    sym (ap num (power_half false n q refl)) ∙ num-jump (n % 2) (product q q) (block-product q q)
    ∙ ap (steps 127 0x87 (n % 2)) (num-product q q hq ∙ sym (squared_is (num q) (block-lt q hq)) ∙ ap squared (power_of_is k (n / 2) (half_lt k n h)))
    ∙ sym (quick_steps_lem (n % 2) (squared (power_of k (n / 2))))

-- ---- computed

-- x^(2^128 - 1) is 1
pub power-whole : num (power (pos (2 ^ 128 - 1))) ≡ 1
unfolding power_of squared folded spread quick_steps quick_step
power-whole = power_of_is 128 (2 ^ 128 - 1) (lit< tt) ∙ refl

-- x^m for m = (2^128 - 1) / 6,700,417
pub power_cofactor : num (power (pos 50785252159819077448966923615615)) ≡ 0xb34f959af912795f3236a7c5c9b5b422
unfolding power_of squared folded spread quick_steps quick_step
power_cofactor = power_of_is 106 50785252159819077448966923615615 (lit< tt) ∙ refl

-- the inverse of x^m + 1
pub inverse_cofactor : mul 127 0x87 0xfb9043b5b964d0d44ce89147bf2b6a67 (bit_xor 0xb34f959af912795f3236a7c5c9b5b422 1) ≡ 1
unfolding mul times step
inverse_cofactor = refl
