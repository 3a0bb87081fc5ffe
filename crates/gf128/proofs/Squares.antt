-- The square of a polynomial is its bits moved apart, reduced: in any ring of `Field`.
use mathlib.Core.Path.{◌≡◌, refl, sym, ap, ap₂, ◌∙◌}
use Prim.Native.Nat.{ℕ, zero, suc, ◌+◌, ◌*◌, ◌/◌, ◌%◌, ◌^◌, ◌<◌}
use native.Mathlib.Nat.{add-zero, add-suc, mul_assoc, suc-mul, mod-lt, mod-eq_of_lt, pow-suc, not-suc-le-zero, le_of_suc-le-suc, mul-div_cancel, mul-mod_left}
use native.Mathlib.Nat.{mul-one as times-one}
use native.Mathlib.Omega.{arith}
use lib.Arith.{lt-one}
use lib.Bits.{bit_xor, xor_mod, xor_block, block_half, block_odd}
use lib.Dec.{lit<}
use lib.Pow.{pow-add, pow-lt, pow_pos}
use Rattle.blocks.specs.Field.{step, steps, times, mul}
use Rattle.blocks.proofs.Xor.{two_pos, bit-xor, xor_assoc, xor_cancel, xor_half, xor_odd}
use Rattle.blocks.proofs.Linear.{Linear, linear_of, at_zero, half_lt, basis}
use Rattle.blocks.proofs.Field.{step_linear, steps-add, times_left, times_pow, steps-one, mul_left, mul_right, mul_pow, mul-one, mul_comm}
use Rattle.gf128.specs.Spread.{spread}

pub spread_linear : (n : ℕ) → Linear (spread n)
unfolding spread
spread_linear zero x y = refl
spread_linear (suc n) x y =
    let hx : x % 2 < 2 = mod-lt x two_pos in
    let hy : y % 2 < 2 = mod-lt y two_pos in
    ap₂ (λ (h b : ℕ). h * 4 + b) (ap (spread n) (xor_half x y) ∙ spread_linear n (x / 2) (y / 2)) (xor_odd x y ∙ bit-xor (x % 2) (y % 2) hx hy)
    ∙ sym (xor_block 2 (spread n (x / 2)) (spread n (y / 2)) (x % 2) (y % 2) (omega arith) (omega arith))

four : (i : ℕ) → 2 ^ (suc i * 2) ≡ 2 ^ (i * 2) * 4
four i = ap (λ (z : ℕ). 2 ^ z) (suc-mul i 2) ∙ pow-add 2 (i * 2) 2

pub spread_pow : (n i : ℕ) → i < n → spread n (2 ^ i) ≡ 2 ^ (i * 2)
unfolding spread
spread_pow zero i h = absurd (not-suc-le-zero h)
spread_pow (suc n) zero h = ap (λ (z : ℕ). z * 4 + 1) (at_zero (spread n) (spread_linear n))
spread_pow (suc n) (suc i) h =
    ap₂ (λ (q b : ℕ). spread n q * 4 + b) (ap (λ (z : ℕ). z / 2) (pow-suc 2 i) ∙ mul-div_cancel (2 ^ i) two_pos)
    (ap (λ (z : ℕ). z % 2) (pow-suc 2 i) ∙ mul-mod_left (2 ^ i) 2)
    ∙ add-zero (spread n (2 ^ i) * 4) ∙ ap (λ (z : ℕ). z * 4) (spread_pow n i (le_of_suc-le-suc h)) ∙ sym (four i)

group : (s w v b : ℕ) → (s * w + v) * 4 + b ≡ s * (w * 4) + (v * 4 + b)
group s w v b = let e : s * (w * 4) ≡ s * w * 4 = sym (mul_assoc s w 4) in omega arith

-- of a and then m low bits
pub spread_more : (m n a v : ℕ) → v < 2 ^ m → spread (n + m) (a * 2 ^ m + v) ≡ spread n a * 2 ^ (m * 2) + spread m v
unfolding spread
spread_more zero n a v h =
    let e : a * 1 + v ≡ a = ap (λ (z : ℕ). a * 1 + z) (lt-one h) ∙ add-zero (a * 1) ∙ times-one a in
    ap₂ spread (add-zero n) e ∙ sym (add-zero (spread n a * 1) ∙ times-one (spread n a))
spread_more (suc m) n a v h =
    ap (λ (k : ℕ). spread k (a * 2 ^ suc m + v)) (add-suc n m)
    ∙ ap₂ (λ (q b : ℕ). spread (n + m) q * 4 + b) (block_half a m v) (block_odd a m v)
    ∙ ap (λ (z : ℕ). z * 4 + v % 2) (spread_more m n a (v / 2) (half_lt m v h))
    ∙ group (spread n a) (2 ^ (m * 2)) (spread m (v / 2)) (v % 2)
    ∙ ap (λ (w : ℕ). spread n a * w + (spread m (v / 2) * 4 + v % 2)) (sym (four m))

pub spread-lt : (n a : ℕ) → spread n a < 2 ^ (n * 2)
unfolding spread
spread-lt zero a = lit< tt
spread-lt (suc n) a = let l : a % 2 < 2 = mod-lt a two_pos in omega (arith, four n, spread-lt n (a / 2))

-- ---- the field

module _ (k p : ℕ) where
  -- a wide polynomial, reduced from the top: of h x^m + v
  pub times_more : (m n h v b : ℕ) → v < 2 ^ m → times k p (n + m) (h * 2 ^ m + v) b ≡ bit_xor (times k p m v b) (steps k p m (times k p n h b))
  unfolding times steps
  times_more zero n h v b l =
      let e : h * 1 + v ≡ h = ap (λ (z : ℕ). h * 1 + z) (lt-one l) ∙ add-zero (h * 1) ∙ times-one h in
      ap₂ (λ (i z : ℕ). times k p i z b) (add-zero n) e
  times_more (suc m) n h v b l =
      ap (λ (i : ℕ). times k p i (h * 2 ^ suc m + v) b) (add-suc n m)
      ∙ ap₂ (λ (o q : ℕ). bit_xor (o * b) (step k p (times k p (n + m) q b))) (block_odd h m v) (block_half h m v)
      ∙ ap (λ (z : ℕ). bit_xor (v % 2 * b) (step k p z)) (times_more m n h (v / 2) b (half_lt m v l))
      ∙ ap (bit_xor (v % 2 * b)) (step_linear k p (times k p m (v / 2) b) (steps k p m (times k p n h b)))
      ∙ sym (xor_assoc (v % 2 * b) (step k p (times k p m (v / 2) b)) (step k p (steps k p m (times k p n h b))))

  pub square : ℕ → ℕ
  square a = times k p (suc k + suc k) (spread (suc k) a) 1

  square_linear : Linear square
  unfolding square
  square_linear = linear_of (λ w. times k p (suc k + suc k) w 1) (spread (suc k)) (times_left k p (suc k + suc k) 1) (spread_linear (suc k))

  square_pow : (i : ℕ) → i < suc k → square (2 ^ i) ≡ steps k p (i + i) 1
  unfolding square
  square_pow i h =
      let e : i * 2 ≡ i + i = omega arith in
      ap (λ (w : ℕ). times k p (suc k + suc k) w 1) (spread_pow (suc k) i h ∙ ap (λ (z : ℕ). 2 ^ z) e)
      ∙ times_pow k p (suc k + suc k) (i + i) 1 (omega arith)

  -- (a + b) (a + b) is a a + b b
  module _ (hp : p < 2 ^ suc k) where
    low : ℕ → ℕ
    low a = a % 2 ^ suc k

    self : ℕ → ℕ
    self a = mul k p (low a) (low a)

    low-lt : (a : ℕ) → low a < 2 ^ suc k
    unfolding low
    low-lt a = mod-lt a (pow_pos (suc k))

    cross : (a b d : ℕ) → bit_xor (bit_xor a b) (bit_xor b d) ≡ bit_xor a d
    cross a b d = xor_assoc a b (bit_xor b d) ∙ ap (bit_xor a) (xor_cancel b d)

    self_linear : Linear self
    unfolding self low
    self_linear x y =
        let u = low x in
        let v = low y in
        ap (λ (z : ℕ). mul k p z z) (xor_mod x y (suc k))
        ∙ mul_left k p (bit_xor u v) u v
        ∙ ap₂ bit_xor (mul_right k p u u v) (mul_right k p v u v)
        ∙ ap (λ (z : ℕ). bit_xor (bit_xor (mul k p u u) (mul k p u v)) (bit_xor z (mul k p v v))) (mul_comm k p v u (low-lt y) (low-lt x))
        ∙ cross (mul k p u u) (mul k p u v) (mul k p v v)

    pub square_mul : (a : ℕ) → a < 2 ^ suc k → square a ≡ mul k p a a
    unfolding self low
    square_mul a h =
        basis (suc k) square self square_linear self_linear
        (λ i l. square_pow i l
        ∙ steps-add k p i i 1 ∙ ap (steps k p i) (steps-one k p i l) ∙ sym (mul_pow k p i (2 ^ i) l)
        ∙ ap (λ (z : ℕ). mul k p z z) (sym (mod-eq_of_lt (pow-lt l)))) a h
        ∙ ap (λ (z : ℕ). mul k p z z) (mod-eq_of_lt h)

    -- as it is computed: the two halves of the spread bits, the upper one x^(k+1) times over
    pub square_halves : (a h l : ℕ) → a < 2 ^ suc k → spread (suc k) a ≡ h * 2 ^ suc k + l → h < 2 ^ suc k → l < 2 ^ suc k
        → bit_xor l (steps k p (suc k) h) ≡ mul k p a a
    unfolding square mul
    square_halves a h l ha e hh hl =
        sym (ap (λ (w : ℕ). times k p (suc k + suc k) w 1) e
        ∙ times_more (suc k) (suc k) h l 1 hl
        ∙ ap₂ (λ (x y : ℕ). bit_xor x (steps k p (suc k) y)) (mul-one k p l hl) (mul-one k p h hh))
        ∙ square_mul a ha
