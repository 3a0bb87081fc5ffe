-- Functions on numbers that go through exclusive or. Each law holds at every number, so that no bound is carried along.
use mathlib.Core.Path.{◌≡◌, refl, sym, ap, ap₂, ◌∙◌}
use Prim.Native.Nat.{ℕ, zero, suc, ◌*◌, ◌/◌, ◌%◌, ◌^◌, ◌<◌, suc-le-suc, zero-le}
use native.Mathlib.Nat.{add-zero, zero-mul, one-mul, mod-lt, div-add-mod', pow-suc, div-lt_iff_lt-mul}
use native.Mathlib.Omega.{arith}
use lib.Arith.{lt-one}
use lib.Bits.{bit_xor, differ, xor_self, xor_zero_r, xor_block, xor_shifted}
use lib.Dec.{T, eqb}
use lib.Pow.{pow_pos}
use Rattle.blocks.proofs.Test.{all, equal-below}
use Rattle.blocks.proofs.Xor.{two_pos, xor_swap, xor_odd}

abbrev pub Linear : (ℕ → ℕ) → Type 0
Linear f = (x y : ℕ) → f (bit_xor x y) ≡ bit_xor (f x) (f y)

-- ---- what is linear

pub linear_same : Linear (λ x. x)
linear_same x y = refl

pub linear_none : Linear (λ x. 0)
linear_none x y = refl

pub linear_xor : (f g : ℕ → ℕ) → Linear f → Linear g → Linear (λ x. bit_xor (f x) (g x))
linear_xor f g hf hg x y = ap₂ bit_xor (hf x y) (hg x y) ∙ xor_swap (f x) (f y) (g x) (g y)

pub linear_of : (f g : ℕ → ℕ) → Linear f → Linear g → Linear (λ x. f (g x))
linear_of f g hf hg x y = ap f (hg x y) ∙ hf (g x) (g y)

-- k places up
pub places : (k : ℕ) → Linear (λ x. x * 2 ^ k)
places k x y =
    sym (sym (ap₂ bit_xor (add-zero (x * 2 ^ k)) (add-zero (y * 2 ^ k))) ∙ xor_block k x y 0 0 (pow_pos k) (pow_pos k) ∙ add-zero (bit_xor x y * 2 ^ k))

pub double : Linear (λ x. x * 2)
double = places 1

-- a bit, times a constant
pub scale_bit : (k x y : ℕ) → x < 2 → y < 2 → differ x y * k ≡ bit_xor (x * k) (y * k)
scale_bit k zero y hx hy = sym (ap (λ (z : ℕ). bit_xor z (y * k)) (zero-mul k))
scale_bit k (suc zero) zero hx hy = sym (ap (bit_xor (1 * k)) (zero-mul k) ∙ xor_zero_r (1 * k))
scale_bit k (suc zero) (suc zero) hx hy = zero-mul k ∙ sym (xor_self (1 * k))
scale_bit k (suc zero) (suc (suc y)) hx hy = absurd (omega arith)
scale_bit k (suc (suc x)) y hx hy = absurd (omega arith)

pub odd_scale : (k : ℕ) → Linear (λ x. x % 2 * k)
odd_scale k x y = ap (λ (z : ℕ). z * k) (xor_odd x y) ∙ scale_bit k (x % 2) (y % 2) (mod-lt x two_pos) (mod-lt y two_pos)

-- a constant bit, times a number
pub bit_linear : (b : ℕ) → b < 2 → Linear (λ x. b * x)
bit_linear zero h x y = zero-mul (bit_xor x y) ∙ sym (ap₂ bit_xor (zero-mul x) (zero-mul y))
bit_linear (suc zero) h x y = one-mul (bit_xor x y) ∙ sym (ap₂ bit_xor (one-mul x) (one-mul y))
bit_linear (suc (suc b)) h x y = absurd (omega arith)

-- a bit, times a number of n bits, has n bits
pub bit-lt : (n b x : ℕ) → b < 2 → x < n → b * x < n
bit-lt n zero x h l = rw zero-mul (omega arith)
bit-lt n (suc zero) x h l = rw one-mul l
bit-lt n (suc (suc b)) x h l = absurd (omega arith)

-- ---- two linear functions that agree at 1, 2, 4, .. agree at every number of n bits

split-bit : (x : ℕ) → bit_xor (x / 2 * 2) (x % 2) ≡ x
split-bit x = xor_shifted (x / 2) 1 (x % 2) (mod-lt x two_pos) ∙ div-add-mod' x 2

pub at_zero : (f : ℕ → ℕ) → Linear f → f 0 ≡ 0
at_zero f h = sym (ap f (xor_self 0)) ∙ h 0 0 ∙ xor_self (f 0)

-- half of a number of n + 1 bits has n bits
pub half_lt : (n v : ℕ) → v < 2 ^ suc n → v / 2 < 2 ^ n
half_lt n v h = (div-lt_iff_lt-mul two_pos).1 (rw pow-suc at h)

pub basis : (n : ℕ) (f g : ℕ → ℕ) → Linear f → Linear g → ((i : ℕ) → i < n → f (2 ^ i) ≡ g (2 ^ i)) → (x : ℕ) → x < 2 ^ n → f x ≡ g x
basis zero f g hf hg h x lt = ap f (lt-one lt) ∙ at_zero f hf ∙ sym (ap g (lt-one lt) ∙ at_zero g hg)
basis (suc n) f g hf hg h x lt =
    ap f (sym (split-bit x)) ∙ hf (x / 2 * 2) (x % 2)
    ∙ ap₂ bit_xor
    (basis n (λ z. f (z * 2)) (λ z. g (z * 2)) (linear_of f (λ z. z * 2) hf double) (linear_of g (λ z. z * 2) hg double)
    (λ i l. ap f (sym (pow-suc 2 i)) ∙ h (suc i) (suc-le-suc l) ∙ ap g (pow-suc 2 i)) (x / 2) (half_lt n x lt))
    (low (x % 2) (mod-lt x two_pos))
    ∙ sym (hg (x / 2 * 2) (x % 2)) ∙ ap g (split-bit x)
  where
    low : (b : ℕ) → b < 2 → f b ≡ g b
    low zero l = at_zero f hf ∙ sym (at_zero g hg)
    low (suc zero) l = h 0 (suc-le-suc zero-le)
    low (suc (suc b)) l = absurd (omega arith)

-- so eight tests, at 1, 2, 4, .., 128, show that they agree at every byte
pub by-test : (f g : ℕ → ℕ) → Linear f → Linear g → T (all (λ i. eqb (f (2 ^ i)) (g (2 ^ i))) 8) → (x : ℕ) → x < 256 → f x ≡ g x
by-test f g hf hg t = basis 8 f g hf hg (equal-below 8 (λ i. f (2 ^ i)) (λ i. g (2 ^ i)) t)
