-- Exclusive or of numbers: it associates, cancels, and goes through halves, low bits and masks.
use mathlib.Core.Path.{◌≡◌, refl, sym, ap, ap₂, ◌∙◌}
use Prim.Native.Nat.{ℕ, zero, suc, ◌+◌, ◌*◌, ◌/◌, ◌%◌, ◌<◌, suc-le-suc, zero-le}
use native.Mathlib.Nat.{mod-lt, div-add-mod'}
use native.Mathlib.Omega.{arith}
use lib.Arith.{bin_ind, digits_div, digits_mod}
use lib.Bits.{bit_xor, bit_and, differ, xor_step, xor_comm, xor_self, xor_lt, xor_mod, and_shr, and_mod}

pub two_pos : 0 < 2
two_pos = suc-le-suc zero-le

-- ---- bits

differ_assoc : (x y z : ℕ) → x < 2 → y < 2 → z < 2 → differ (differ x y) z ≡ differ x (differ y z)
differ_assoc zero y z hx hy hz = refl
differ_assoc (suc zero) zero z hx hy hz = refl
differ_assoc (suc zero) (suc zero) zero hx hy hz = refl
differ_assoc (suc zero) (suc zero) (suc zero) hx hy hz = refl
differ_assoc (suc zero) (suc zero) (suc (suc z)) hx hy hz = absurd (omega arith)
differ_assoc (suc zero) (suc (suc y)) z hx hy hz = absurd (omega arith)
differ_assoc (suc (suc x)) y z hx hy hz = absurd (omega arith)

pub bit-xor : (x y : ℕ) → x < 2 → y < 2 → differ x y ≡ bit_xor x y
bit-xor zero y hx hy = refl
bit-xor (suc zero) zero hx hy = refl
bit-xor (suc zero) (suc zero) hx hy = refl
bit-xor (suc zero) (suc (suc y)) hx hy = absurd (omega arith)
bit-xor (suc (suc x)) y hx hy = absurd (omega arith)

differ-lt : (x y : ℕ) → x < 2 → y < 2 → differ x y < 2
differ-lt x y hx hy = rw (bit-xor x y hx hy) (xor_lt 1 x y hx hy)

-- ---- numbers

pub xor_half : (a b : ℕ) → bit_xor a b / 2 ≡ bit_xor (a / 2) (b / 2)
xor_half a b =
    ap (λ (x : ℕ). x / 2) (xor_step a b)
    ∙ digits_div (bit_xor (a / 2) (b / 2)) (differ-lt (a % 2) (b % 2) (mod-lt a two_pos) (mod-lt b two_pos))

pub xor_odd : (a b : ℕ) → bit_xor a b % 2 ≡ differ (a % 2) (b % 2)
xor_odd a b =
    ap (λ (x : ℕ). x % 2) (xor_step a b)
    ∙ digits_mod (bit_xor (a / 2) (b / 2)) (differ-lt (a % 2) (b % 2) (mod-lt a two_pos) (mod-lt b two_pos))

pub xor_assoc : (a b c : ℕ) → bit_xor (bit_xor a b) c ≡ bit_xor a (bit_xor b c)
xor_assoc a =
    bin_ind (λ (n : ℕ). (b c : ℕ) → bit_xor (bit_xor n b) c ≡ bit_xor n (bit_xor b c)) (λ b c. refl)
    (λ n ih b c.
    xor_step (bit_xor n b) c
    ∙ ap₂ (λ (x y : ℕ). bit_xor x (c / 2) * 2 + differ y (c % 2)) (xor_half n b) (xor_odd n b)
    ∙ ap₂ (λ (x y : ℕ). x * 2 + y) (ih (b / 2) (c / 2)) (differ_assoc (n % 2) (b % 2) (c % 2) (mod-lt n two_pos) (mod-lt b two_pos) (mod-lt c two_pos))
    ∙ sym (ap₂ (λ (x y : ℕ). bit_xor (n / 2) x * 2 + differ (n % 2) y) (xor_half b c) (xor_odd b c))
    ∙ sym (xor_step n (bit_xor b c))) a

-- a ⊕ (a ⊕ b) is b
pub xor_cancel : (a b : ℕ) → bit_xor a (bit_xor a b) ≡ b
xor_cancel a b = sym (xor_assoc a a b) ∙ ap (λ (x : ℕ). bit_xor x b) (xor_self a)

-- (a ⊕ b) ⊕ (c ⊕ d) is (a ⊕ c) ⊕ (b ⊕ d)
pub xor_swap : (a b c d : ℕ) → bit_xor (bit_xor a b) (bit_xor c d) ≡ bit_xor (bit_xor a c) (bit_xor b d)
xor_swap a b c d =
    xor_assoc a b (bit_xor c d)
    ∙ ap (bit_xor a) (sym (xor_assoc b c d) ∙ ap (λ (x : ℕ). bit_xor x d) (xor_comm b c) ∙ xor_assoc c b d)
    ∙ sym (xor_assoc a c (bit_xor b d))

pub xor8 : (a b : ℕ) → a < 256 → b < 256 → bit_xor a b < 256
xor8 = xor_lt 8

-- ---- a mask

mask_bits : (x y m : ℕ) → x < 2 → y < 2 → m < 2 → bit_and (bit_xor x y) m ≡ bit_xor (bit_and x m) (bit_and y m)
mask_bits zero y m hx hy hm = refl
mask_bits (suc zero) zero zero hx hy hm = refl
mask_bits (suc zero) zero (suc zero) hx hy hm = refl
mask_bits (suc zero) (suc zero) zero hx hy hm = refl
mask_bits (suc zero) (suc zero) (suc zero) hx hy hm = refl
mask_bits (suc zero) zero (suc (suc m)) hx hy hm = absurd (omega arith)
mask_bits (suc zero) (suc zero) (suc (suc m)) hx hy hm = absurd (omega arith)
mask_bits (suc zero) (suc (suc y)) m hx hy hm = absurd (omega arith)
mask_bits (suc (suc x)) y m hx hy hm = absurd (omega arith)

pub mask_xor : (a b m : ℕ) → bit_and (bit_xor a b) m ≡ bit_xor (bit_and a m) (bit_and b m)
mask_xor a =
    bin_ind (λ (n : ℕ). (b m : ℕ) → bit_and (bit_xor n b) m ≡ bit_xor (bit_and n m) (bit_and b m)) (λ b m. refl)
    (λ n ih b m.
    sym (div-add-mod' (bit_and (bit_xor n b) m) 2)
    ∙ ap₂ (λ (x y : ℕ). x * 2 + y)
    (and_shr (bit_xor n b) m 1 ∙ ap (λ (x : ℕ). bit_and x (m / 2)) (xor_half n b) ∙ ih (b / 2) (m / 2)
    ∙ sym (xor_half (bit_and n m) (bit_and b m) ∙ ap₂ bit_xor (and_shr n m 1) (and_shr b m 1)))
    (and_mod (bit_xor n b) m 1 ∙ ap (λ (x : ℕ). bit_and x (m % 2)) (xor_mod n b 1)
    ∙ mask_bits (n % 2) (b % 2) (m % 2) (mod-lt n two_pos) (mod-lt b two_pos) (mod-lt m two_pos)
    ∙ sym (xor_mod (bit_and n m) (bit_and b m) 1 ∙ ap₂ bit_xor (and_mod n m 1) (and_mod b m 1)))
    ∙ div-add-mod' (bit_xor (bit_and n m) (bit_and b m)) 2) a
