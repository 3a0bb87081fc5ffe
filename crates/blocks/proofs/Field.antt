-- The ring of polynomials over GF(2) modulo x^(k + 1) + p: the product is linear on both sides, commutes and associates, 1 does
-- nothing, and the product with x^n is n steps.
use mathlib.Core.Path.{◌≡◌, refl, sym, ap, ap₂, ◌∙◌}
use Prim.Native.Nat.{ℕ, zero, suc, ◌+◌, ◌*◌, ◌/◌, ◌%◌, ◌^◌, ◌<◌, suc-le-suc}
use native.Mathlib.Nat.{zero-add, suc-add, add_comm, zero-mul, one-mul, mod-lt, mod-eq_of_lt, div-eq_of_lt, pow-suc, not-suc-le-zero, le_of_suc-le-suc, le_trans, le-suc, mul-div_cancel, mul-mod_left}
use native.Mathlib.Omega.{arith}
use lib.Bits.{bit_xor, xor_zero_r, xor_lt, xor_mod, xor_shr}
use lib.Pow.{pow_pos, pow-lt}
use Rattle.blocks.specs.Field.{step, steps, times, mul}
use Rattle.blocks.proofs.Xor.{two_pos, xor_half}
use Rattle.blocks.proofs.Linear.{Linear, linear_xor, linear_of, double, odd_scale, bit_linear, bit-lt, at_zero, basis}

module _ (k p : ℕ) where
  pub step_linear : Linear (step k p)
  unfolding step
  step_linear =
      linear_xor (λ x. x * 2 % 2 ^ suc k) (λ x. x / 2 ^ k % 2 * p)
      (linear_of (λ x. x % 2 ^ suc k) (λ x. x * 2) (λ x y. xor_mod x y (suc k)) double)
      (linear_of (λ x. x % 2 * p) (λ x. x / 2 ^ k) (odd_scale p) (λ x y. xor_shr x y k))

  pub steps_linear : (n : ℕ) → Linear (steps k p n)
  unfolding steps
  steps_linear zero = λ x y. refl
  steps_linear (suc n) = linear_of (step k p) (steps k p n) step_linear (steps_linear n)

  pub steps-add : (n m b : ℕ) → steps k p (n + m) b ≡ steps k p n (steps k p m b)
  unfolding steps
  steps-add zero m b = ap (λ (z : ℕ). steps k p z b) (zero-add m)
  steps-add (suc n) m b = ap (λ (z : ℕ). steps k p z b) (suc-add n m) ∙ ap (step k p) (steps-add n m b)

  pub steps_comm : (n m b : ℕ) → steps k p n (steps k p m b) ≡ steps k p m (steps k p n b)
  steps_comm n m b = sym (steps-add n m b) ∙ ap (λ (z : ℕ). steps k p z b) (add_comm n m) ∙ steps-add m n b

  pub times_left : (n b : ℕ) → Linear (λ a. times k p n a b)
  unfolding times
  times_left zero b = λ x y. refl
  times_left (suc n) b =
      linear_xor (λ a. a % 2 * b) (λ a. step k p (times k p n (a / 2) b)) (odd_scale b)
      (linear_of (step k p) (λ a. times k p n (a / 2) b) step_linear (λ x y. ap (λ (z : ℕ). times k p n z b) (xor_half x y) ∙ times_left n b (x / 2) (y / 2)))

  pub times_right : (n a : ℕ) → Linear (times k p n a)
  unfolding times
  times_right zero a = λ x y. refl
  times_right (suc n) a =
      linear_xor (λ x. a % 2 * x) (λ x. step k p (times k p n (a / 2) x)) (bit_linear (a % 2) (mod-lt a two_pos))
      (linear_of (step k p) (times k p n (a / 2)) step_linear (times_right n (a / 2)))

  pub mul_left : (b : ℕ) → Linear (λ a. mul k p a b)
  unfolding mul
  mul_left b = times_left (suc k) b

  pub mul_right : (a : ℕ) → Linear (mul k p a)
  unfolding mul
  mul_right a = times_right (suc k) a

  -- x^i b
  pub times_pow : (n i b : ℕ) → i < n → times k p n (2 ^ i) b ≡ steps k p i b
  unfolding times steps
  times_pow zero i b h = absurd (not-suc-le-zero h)
  times_pow (suc n) zero b h =
      ap₂ bit_xor (one-mul b) (ap (step k p) (at_zero (λ a. times k p n a b) (times_left n b)) ∙ at_zero (step k p) step_linear) ∙ xor_zero_r b
  times_pow (suc n) (suc i) b h =
      ap₂ bit_xor (ap (λ (z : ℕ). z * b) (ap (λ (z : ℕ). z % 2) (pow-suc 2 i) ∙ mul-mod_left (2 ^ i) 2) ∙ zero-mul b)
      (ap (λ (z : ℕ). step k p (times k p n z b)) (ap (λ (z : ℕ). z / 2) (pow-suc 2 i) ∙ mul-div_cancel (2 ^ i) two_pos)
      ∙ ap (step k p) (times_pow n i b (le_of_suc-le-suc h)))

  -- x^i is the number 2^i
  pub step_pow : (i : ℕ) → i < k → step k p (2 ^ i) ≡ 2 ^ suc i
  unfolding step
  step_pow i h =
      ap₂ bit_xor (ap (λ (z : ℕ). z % 2 ^ suc k) (sym (pow-suc 2 i)) ∙ mod-eq_of_lt (pow-lt (suc-le-suc h)))
      (ap (λ (z : ℕ). z % 2 * p) (div-eq_of_lt (pow-lt h)) ∙ zero-mul p)
      ∙ xor_zero_r (2 ^ suc i)

  pub steps-one : (i : ℕ) → i < suc k → steps k p i 1 ≡ 2 ^ i
  unfolding steps
  steps-one zero h = refl
  steps-one (suc i) h = ap (step k p) (steps-one i (le_trans (le-suc (suc i)) h)) ∙ step_pow i (le_of_suc-le-suc h)

  pub mul_pow : (i b : ℕ) → i < suc k → mul k p (2 ^ i) b ≡ steps k p i b
  unfolding mul
  mul_pow i b h = times_pow (suc k) i b h

  pub mul-one : (a : ℕ) → a < 2 ^ suc k → mul k p a 1 ≡ a
  mul-one = basis (suc k) (λ a. mul k p a 1) (λ a. a) (mul_left 1) (λ x y. refl) (λ i h. mul_pow i 1 h ∙ steps-one i h)

  bit-step : (b x : ℕ) → b < 2 → b * step k p x ≡ step k p (b * x)
  bit-step zero x h = zero-mul (step k p x) ∙ sym (ap (step k p) (zero-mul x) ∙ at_zero (step k p) step_linear)
  bit-step (suc zero) x h = one-mul (step k p x) ∙ ap (step k p) (sym (one-mul x))
  bit-step (suc (suc b)) x h = absurd (omega arith)

  pub times-step : (n a b : ℕ) → times k p n a (step k p b) ≡ step k p (times k p n a b)
  unfolding times
  times-step zero a b = sym (at_zero (step k p) step_linear)
  times-step (suc n) a b =
      ap₂ bit_xor (bit-step (a % 2) b (mod-lt a two_pos)) (ap (step k p) (times-step n (a / 2) b))
      ∙ sym (step_linear (a % 2 * b) (step k p (times k p n (a / 2) b)))

  pub mul-step : (a b : ℕ) → mul k p a (step k p b) ≡ step k p (mul k p a b)
  unfolding mul
  mul-step a b = times-step (suc k) a b

  pub mul-steps : (n a b : ℕ) → mul k p a (steps k p n b) ≡ steps k p n (mul k p a b)
  unfolding steps
  mul-steps zero a b = refl
  mul-steps (suc n) a b = mul-step a (steps k p n b) ∙ ap (step k p) (mul-steps n a b)

  pub mul_comm : (a b : ℕ) → a < 2 ^ suc k → b < 2 ^ suc k → mul k p a b ≡ mul k p b a
  mul_comm a b ha hb =
      basis (suc k) (λ z. mul k p z b) (mul k p b) (mul_left b) (mul_right b)
      (λ i h. mul_pow i b h ∙ sym (ap (mul k p b) (sym (steps-one i h)) ∙ mul-steps i b 1 ∙ ap (steps k p i) (mul-one b hb))) a ha

  -- ---- bounds, and what needs them
  module _ (hp : p < 2 ^ suc k) where
    pub step-lt : (a : ℕ) → step k p a < 2 ^ suc k
    unfolding step
    step-lt a = xor_lt (suc k) (a * 2 % 2 ^ suc k) (a / 2 ^ k % 2 * p) (mod-lt (a * 2) (pow_pos (suc k))) (bit-lt (2 ^ suc k) (a / 2 ^ k % 2) p (mod-lt (a / 2 ^ k) two_pos) hp)

    pub steps-lt : (n a : ℕ) → a < 2 ^ suc k → steps k p n a < 2 ^ suc k
    unfolding steps
    steps-lt zero a h = h
    steps-lt (suc n) a h = step-lt (steps k p n a)

    pub times-lt : (n a b : ℕ) → b < 2 ^ suc k → times k p n a b < 2 ^ suc k
    unfolding times
    times-lt zero a b h = pow_pos (suc k)
    times-lt (suc n) a b h =
        xor_lt (suc k) (a % 2 * b) (step k p (times k p n (a / 2) b)) (bit-lt (2 ^ suc k) (a % 2) b (mod-lt a two_pos) h) (step-lt (times k p n (a / 2) b))

    pub mul-lt : (a b : ℕ) → b < 2 ^ suc k → mul k p a b < 2 ^ suc k
    unfolding mul
    mul-lt a b h = times-lt (suc k) a b h

    -- (x a) b is x (a b)
    pub step-mul : (a b : ℕ) → a < 2 ^ suc k → b < 2 ^ suc k → mul k p (step k p a) b ≡ step k p (mul k p a b)
    step-mul a b ha hb = mul_comm (step k p a) b (step-lt a) hb ∙ mul-step b a ∙ ap (step k p) (mul_comm b a hb ha)

    pub steps-mul : (n a b : ℕ) → a < 2 ^ suc k → b < 2 ^ suc k → mul k p (steps k p n a) b ≡ steps k p n (mul k p a b)
    steps-mul n a b ha hb = mul_comm (steps k p n a) b (steps-lt n a ha) hb ∙ mul-steps n b a ∙ ap (steps k p n) (mul_comm b a hb ha)

    pub mul_assoc : (a b c : ℕ) → a < 2 ^ suc k → b < 2 ^ suc k → c < 2 ^ suc k → mul k p (mul k p a b) c ≡ mul k p a (mul k p b c)
    mul_assoc a b c ha hb hc =
        basis (suc k) (λ z. mul k p (mul k p z b) c) (λ z. mul k p z (mul k p b c)) (linear_of (λ z. mul k p z c) (λ z. mul k p z b) (mul_left c) (mul_left b)) (mul_left (mul k p b c))
        (λ i h. ap (λ (z : ℕ). mul k p z c) (mul_pow i b h) ∙ steps-mul i b c hb hc ∙ sym (mul_pow i (mul k p b c) h)) a ha
