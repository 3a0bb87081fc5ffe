-- Divide by x, on blocks: it undoes multiplying by x and is undone by it, and so it goes through exclusive or.
use mathlib.Core.Path.{◌≡◌, refl, sym, ap, ap₂, ◌∙◌}
use mathlib.Core.List.{List, [], ◌∷◌}
use Prim.Native.Nat.{ℕ, zero, suc, ◌+◌, ◌*◌, ◌/◌, ◌%◌, ◌<◌}
use native.Mathlib.Nat.{mod-lt, suc_inj, not-suc-le-zero}
use native.Mathlib.Omega.{arith}
use lib.Bits.{bit_xor, xor_mod, xor_shifted, xor_zero_l, xor_self}
use lib.Dec.{lit<}
use lib.ListN.{length, get_or}
use Rattle.blocks.specs.Bytes.{Bytes, Block, xor_bytes}
use Rattle.blocks.proofs.Xor.{two_pos, xor8}
use Rattle.blocks.proofs.XorBytes.{length-xor, block-xor, get_or-xor, xor_bytes_cancel}
use Rattle.gf128.specs.Gf128.{carry, shift_left, reduction, times_x, low_bit, shift_right, over_x}
use Rattle.gf128.proofs.TimesX.{carry-lt, carry_at, length_shift, length-reduction, bytes_reduction, low_sum, times_x_last, times_x-xor}

-- ---- blocks go to blocks

low-lt : (b : List ℕ) → low_bit b < 2
unfolding low_bit
low-lt b = mod-lt (get_or b 15 0) two_pos

length_right : (top : ℕ) (a : List ℕ) → length (shift_right top a) ≡ length a
unfolding shift_right
length_right top [] = refl
length_right top (x ∷ a) = ap suc (length_right (x % 2) a)

bytes_right : (top : ℕ) (a : List ℕ) → top < 2 → Bytes a → Bytes (shift_right top a)
unfolding shift_right
bytes_right top [] t h i = lit< tt
bytes_right top (x ∷ a) t h zero = xor8 (top * 128) (x / 2) (omega arith) (omega (arith, h 0))
bytes_right top (x ∷ a) t h (suc i) = bytes_right (x % 2) a (mod-lt x two_pos) (λ j. h (suc j)) i

-- the block with the polynomial added, but for its top bit
added : List ℕ → List ℕ
added b = xor_bytes b (reduction (low_bit b))

length_added : (b : List ℕ) → length b ≡ 16 → length (added b) ≡ 16
unfolding added
length_added b e = length-xor b (reduction (low_bit b)) (e ∙ sym (length-reduction (low_bit b))) ∙ e

block_added : (b : List ℕ) → Block b → Block (added b)
unfolding added
block_added b h =
    block-xor b (reduction (low_bit b)) h (record { long = length-reduction (low_bit b); bytes = bytes_reduction (low_bit b) (low-lt b) })

pub length-over_x : (b : List ℕ) → length b ≡ 16 → length (over_x b) ≡ 16
unfolding over_x added
length-over_x b e = length_right (low_bit b) (added b) ∙ length_added b e

pub block-over_x : (b : List ℕ) → Block b → Block (over_x b)
unfolding over_x added
block-over_x b h =
    record { long = length-over_x b h.long; bytes = bytes_right (low_bit b) (added b) (low-lt b) (block_added b h).bytes }

-- ---- a byte

-- a byte's shift to the right, as a sum
high_sum : (t x : ℕ) → x < 256 → bit_xor (t * 128) (x / 2) ≡ t * 128 + x / 2
high_sum t x h = xor_shifted t 7 (x / 2) (omega arith)

-- left and then right, with the bit that fell out
byte_right_left : (x t : ℕ) → x < 256 → t < 2 → bit_xor (x / 128 % 2 * 128) (bit_xor (x * 2 % 256) t / 2) ≡ x
byte_right_left x t h k =
    let e : (x % 128 * 2 + t) / 2 ≡ x % 128 = omega arith in
    let f : x / 128 % 2 * 128 + x % 128 ≡ x = omega arith in
    ap (λ (z : ℕ). bit_xor (x / 128 % 2 * 128) (z / 2)) (low_sum x t k) ∙ ap (bit_xor (x / 128 % 2 * 128)) e
    ∙ xor_shifted (x / 128 % 2) 7 (x % 128) (mod-lt x (lit< tt)) ∙ f

-- right and then left, with the bit that fell out
byte_left_right : (x t : ℕ) → x < 256 → bit_xor (bit_xor (t * 128) (x / 2) * 2 % 256) (x % 2) ≡ x
byte_left_right x t h =
    let e : (t * 128 + x / 2) * 2 % 256 ≡ x / 2 * 2 = omega arith in
    let f : x / 2 * 2 + x % 2 ≡ x = omega arith in
    ap (λ (z : ℕ). bit_xor (z * 2 % 256) (x % 2)) (high_sum t x h) ∙ ap (λ (z : ℕ). bit_xor z (x % 2)) e
    ∙ xor_shifted (x / 2) 1 (x % 2) (mod-lt x two_pos) ∙ f

-- ---- dividing undoes multiplying

right_left : (a : List ℕ) → Bytes a → shift_right (carry a) (shift_left a) ≡ a
unfolding shift_right shift_left carry
right_left [] h = refl
right_left (x ∷ a) h =
    let t = carry a in
    let e : (x % 128 * 2 + t) % 2 ≡ t = omega (arith, carry-lt a) in
    ap₂ (λ (y : ℕ) (r : List ℕ). y ∷ r) (byte_right_left x t (h 0) (carry-lt a))
    (ap (λ (z : ℕ). shift_right (z % 2) (shift_left a)) (low_sum x t (carry-lt a)) ∙ ap (λ (z : ℕ). shift_right z (shift_left a)) e ∙ right_left a (λ i. h (suc i)))

-- the bit that fell out is the low bit now, since 87 is odd
low-times_x : (b : List ℕ) → Block b → low_bit (times_x b) ≡ carry b
unfolding low_bit
low-times_x b h =
    let y = get_or b 15 0 in
    let c = get_or b 0 0 / 128 in
    let e : y * 2 % 256 % 2 ≡ 0 = omega arith in
    let f : c * 0x87 % 2 ≡ c = omega (arith, h.bytes 0) in
    ap (λ (z : ℕ). z % 2) (sym (times_x_last b h)) ∙ xor_mod (y * 2 % 256) (c * 0x87) 1 ∙ ap₂ bit_xor e f ∙ xor_zero_l c ∙ sym (carry_at b h.bytes)

pub over_times : (b : List ℕ) → Block b → over_x (times_x b) ≡ b
unfolding over_x times_x
over_times b h =
    ap (λ (t : ℕ). shift_right t (xor_bytes (times_x b) (reduction t))) (low-times_x b h)
    ∙ ap (shift_right (carry b)) (xor_bytes_cancel (shift_left b) (reduction (carry b)) (length_shift b ∙ h.long ∙ sym (length-reduction (carry b))))
    ∙ right_left b h.bytes

-- ---- multiplying undoes dividing

carry_right : (top : ℕ) (a : List ℕ) → top < 2 → 0 < length a → Bytes a → carry (shift_right top a) ≡ top
unfolding carry shift_right
carry_right top [] t l h = absurd (not-suc-le-zero l)
carry_right top (x ∷ a) t l h =
    let e : (top * 128 + x / 2) / 128 % 2 ≡ top = omega (arith, h 0) in
    ap (λ (z : ℕ). z / 128 % 2) (high_sum top x (h 0)) ∙ e

-- of a list whose last byte is even
left_right : (n top : ℕ) (a : List ℕ) → length a ≡ suc n → Bytes a → get_or a n 0 % 2 ≡ 0 → shift_left (shift_right top a) ≡ a
unfolding shift_left shift_right carry
left_right n top [] e h z = absurd (omega arith)
left_right zero top (x ∷ []) e h z =
    ap (λ (y : ℕ). y ∷ []) (ap (bit_xor (bit_xor (top * 128) (x / 2) * 2 % 256)) (sym z) ∙ byte_left_right x top (h 0))
left_right zero top (x ∷ y ∷ a) e h z = absurd (omega arith)
left_right (suc n) top (x ∷ []) e h z = absurd (omega arith)
left_right (suc n) top (x ∷ y ∷ a) e h z =
    ap₂ (λ (v : ℕ) (r : List ℕ). v ∷ r)
    (ap (bit_xor (bit_xor (top * 128) (x / 2) * 2 % 256)) (carry_right (x % 2) (y ∷ a) (mod-lt x two_pos) (omega arith) (λ i. h (suc i))) ∙ byte_left_right x top (h 0))
    (left_right n (x % 2) (y ∷ a) (suc_inj e) (λ i. h (suc i)) z)

-- the polynomial makes the block even, since 87 is odd
even_added : (b : List ℕ) → Block b → get_or (added b) 15 0 % 2 ≡ 0
unfolding added reduction low_bit
even_added b h =
    let y = get_or b 15 0 in
    let e : y % 2 % 2 ≡ y % 2 = omega arith in
    let f : y % 2 * 0x87 % 2 ≡ y % 2 = omega arith in
    ap (λ (z : ℕ). z % 2) (get_or-xor b (reduction (low_bit b)) 15 (h.long ∙ sym (length-reduction (low_bit b))))
    ∙ xor_mod y (y % 2 * 0x87) 1 ∙ ap (bit_xor (y % 2)) f ∙ xor_self (y % 2)

pub times_over : (b : List ℕ) → Block b → times_x (over_x b) ≡ b
unfolding over_x times_x added
times_over b h =
    let a = block_added b h in
    let t = low_bit b in
    ap₂ (λ (r : List ℕ) (s : ℕ). xor_bytes r (reduction s)) (left_right 15 t (added b) a.long a.bytes (even_added b h))
    (carry_right t (added b) (low-lt b) (omega (arith, a.long)) a.bytes)
    ∙ xor_bytes_cancel b (reduction t) (h.long ∙ sym (length-reduction t))

-- ---- through exclusive or

pub over_x-xor : (a b : List ℕ) → Block a → Block b → over_x (xor_bytes a b) ≡ xor_bytes (over_x a) (over_x b)
over_x-xor a b ha hb =
    let p = block-over_x a ha in
    let q = block-over_x b hb in
    sym (ap over_x (times_x-xor (over_x a) (over_x b) (p.long ∙ sym q.long) ∙ ap₂ xor_bytes (times_over a ha) (times_over b hb)))
    ∙ over_times (xor_bytes (over_x a) (over_x b)) (block-xor (over_x a) (over_x b) p q)
