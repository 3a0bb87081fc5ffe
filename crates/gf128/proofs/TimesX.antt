-- Multiply by x and the jump, on blocks: lengths and bytes, both go through exclusive or, jumps add; and each byte of the product.
use mathlib.Core.Path.{◌≡◌, refl, sym, ap, ap₂, ◌∙◌}
use mathlib.Core.List.{List, [], ◌∷◌, ◌++◌}
use Prim.Native.Nat.{ℕ, zero, suc, ◌+◌, ◌*◌, ◌/◌, ◌%◌, ◌<◌}
use native.Mathlib.Nat.{suc_inj, mod-lt, lt_of_lt_of_le, le_of_eq, zero-add, suc-add}
use native.Mathlib.Omega.{arith}
use lib.Bits.{bit_xor, xor_mod, xor_shr, xor_shifted, xor_zero_r}
use lib.Dec.{lit<}
use lib.ListN.{length, get_or, get_or-eq_default}
use Rattle.blocks.specs.Bytes.{Bytes, Block, xor_bytes, zeros}
use Rattle.blocks.proofs.Test.{bytes_by}
use Rattle.blocks.proofs.Xor.{two_pos, bit-xor, xor_swap, xor8}
use Rattle.blocks.proofs.Linear.{double, scale_bit}
use Rattle.blocks.proofs.XorBytes.{length-xor, bytes_xor, get_or-xor, xor_bytes_self, xor_bytes_swap}
use Rattle.gf128.specs.Gf128.{carry, shift_left, reduction, times_x, jump, one}

pub carry-lt : (a : List ℕ) → carry a < 2
unfolding carry
carry-lt [] = two_pos
carry-lt (x ∷ a) = mod-lt (x / 128) two_pos

-- ---- blocks go to blocks

pub length_shift : (b : List ℕ) → length (shift_left b) ≡ length b
unfolding shift_left
length_shift [] = refl
length_shift (x ∷ b) = ap suc (length_shift b)

pub length-reduction : (bit : ℕ) → length (reduction bit) ≡ 16
unfolding reduction
length-reduction bit = refl

pub length-times_x : (b : List ℕ) → length b ≡ 16 → length (times_x b) ≡ 16
unfolding times_x
length-times_x b e = length-xor (shift_left b) (reduction (carry b)) (length_shift b ∙ e ∙ sym (length-reduction (carry b))) ∙ length_shift b ∙ e

pub bytes_shift : (a : List ℕ) → Bytes (shift_left a)
unfolding shift_left
bytes_shift [] i = lit< tt
bytes_shift (x ∷ a) zero = xor8 (x * 2 % 256) (carry a) (mod-lt (x * 2) (lit< tt)) (lt_of_lt_of_le (carry-lt a) (omega arith))
bytes_shift (x ∷ a) (suc i) = bytes_shift a i

pub bytes_reduction : (bit : ℕ) → bit < 2 → Bytes (reduction bit)
unfolding reduction
bytes_reduction zero h = bytes_by (zeros 15 ++ (0 ∷ [])) tt
bytes_reduction (suc zero) h = bytes_by (zeros 15 ++ (0x87 ∷ [])) tt
bytes_reduction (suc (suc bit)) h = absurd (omega arith)

pub block-times_x : (b : List ℕ) → length b ≡ 16 → Block (times_x b)
unfolding times_x
block-times_x b e = record {
  long = length-times_x b e;
  bytes = bytes_xor (shift_left b) (reduction (carry b)) (length_shift b ∙ e ∙ sym (length-reduction (carry b))) (bytes_shift b) (bytes_reduction (carry b) (carry-lt b));
}

pub length-jump : (n : ℕ) (b : List ℕ) → length b ≡ 16 → length (jump n b) ≡ 16
unfolding jump
length-jump zero b e = e
length-jump (suc n) b e = length-times_x (jump n b) (length-jump n b e)

pub block-jump : (n : ℕ) (b : List ℕ) → Block b → Block (jump n b)
unfolding jump
block-jump zero b h = h
block-jump (suc n) b h = block-times_x (jump n b) (block-jump n b h).long

pub block-zero : Block (zeros 16)
block-zero = record { long = refl; bytes = bytes_by (zeros 16) tt }

pub block_one : Block one
unfolding one
block_one = record { long = refl; bytes = bytes_by (zeros 15 ++ (1 ∷ [])) tt }

-- ---- through exclusive or

carry-xor : (a b : List ℕ) → length a ≡ length b → carry (xor_bytes a b) ≡ bit_xor (carry a) (carry b)
unfolding carry xor_bytes
carry-xor [] [] e = refl
carry-xor [] (y ∷ b) e = absurd (omega arith)
carry-xor (x ∷ a) [] e = absurd (omega arith)
carry-xor (x ∷ a) (y ∷ b) e = ap (λ (z : ℕ). z % 2) (xor_shr x y 7) ∙ xor_mod (x / 128) (y / 128) 1

shift_xor : (a b : List ℕ) → length a ≡ length b → shift_left (xor_bytes a b) ≡ xor_bytes (shift_left a) (shift_left b)
unfolding shift_left xor_bytes
shift_xor [] [] e = refl
shift_xor [] (y ∷ b) e = absurd (omega arith)
shift_xor (x ∷ a) [] e = absurd (omega arith)
shift_xor (x ∷ a) (y ∷ b) e =
    ap₂ (λ (h : ℕ) (t : List ℕ). h ∷ t)
    (ap₂ bit_xor (ap (λ (z : ℕ). z % 256) (double x y) ∙ xor_mod (x * 2) (y * 2) 8) (carry-xor a b (suc_inj e))
    ∙ xor_swap (x * 2 % 256) (y * 2 % 256) (carry a) (carry b))
    (shift_xor a b (suc_inj e))

reduction-xor : (s t : ℕ) → s < 2 → t < 2 → reduction (bit_xor s t) ≡ xor_bytes (reduction s) (reduction t)
unfolding reduction xor_bytes
reduction-xor s t hs ht = ap (λ (z : ℕ). zeros 15 ++ (z ∷ [])) (ap (λ (z : ℕ). z * 0x87) (sym (bit-xor s t hs ht)) ∙ scale_bit 0x87 s t hs ht)

pub times_x-xor : (a b : List ℕ) → length a ≡ length b → times_x (xor_bytes a b) ≡ xor_bytes (times_x a) (times_x b)
unfolding times_x
times_x-xor a b e =
    ap₂ xor_bytes (shift_xor a b e) (ap reduction (carry-xor a b e) ∙ reduction-xor (carry a) (carry b) (carry-lt a) (carry-lt b))
    ∙ xor_bytes_swap (shift_left a) (shift_left b) (reduction (carry a)) (reduction (carry b))

pub jump-xor : (n : ℕ) (a b : List ℕ) → length a ≡ 16 → length b ≡ 16 → jump n (xor_bytes a b) ≡ xor_bytes (jump n a) (jump n b)
unfolding jump
jump-xor zero a b ea eb = refl
jump-xor (suc n) a b ea eb =
    ap times_x (jump-xor n a b ea eb) ∙ times_x-xor (jump n a) (jump n b) (length-jump n a ea ∙ sym (length-jump n b eb))

-- zero stays zero
pub jump-zero : (n : ℕ) → jump n (zeros 16) ≡ zeros 16
unfolding xor_bytes
jump-zero n = jump-xor n (zeros 16) (zeros 16) refl refl ∙ xor_bytes_self (jump n (zeros 16)) ∙ ap zeros (length-jump n (zeros 16) refl)

-- ---- jumps add

pub jump-add : (n m : ℕ) (b : List ℕ) → jump (n + m) b ≡ jump n (jump m b)
unfolding jump
jump-add zero m b = ap (λ (z : ℕ). jump z b) (zero-add m)
jump-add (suc n) m b = ap (λ (z : ℕ). jump z b) (suc-add n m) ∙ ap times_x (jump-add n m b)

-- ---- each byte: its seven low bits, and the top bit of the next byte

pub carry_at : (b : List ℕ) → Bytes b → carry b ≡ get_or b 0 0 / 128
unfolding carry
carry_at [] h = refl
carry_at (x ∷ b) h = omega (arith, h 0)

-- a byte's shift, as a sum
pub low_sum : (x t : ℕ) → t < 2 → bit_xor (x * 2 % 256) t ≡ x % 128 * 2 + t
low_sum x t h = let e : x * 2 % 256 ≡ x % 128 * 2 = omega arith in ap (λ (z : ℕ). bit_xor z t) e ∙ xor_shifted (x % 128) 1 t h

get_or_shift : (b : List ℕ) (i : ℕ) → Bytes b → get_or (shift_left b) i 0 ≡ bit_xor (get_or b i 0 * 2 % 256) (get_or b (suc i) 0 / 128)
unfolding shift_left
get_or_shift [] i h = refl
get_or_shift (x ∷ b) zero h = ap (bit_xor (x * 2 % 256)) (carry_at b (λ i. h (suc i)))
get_or_shift (x ∷ b) (suc i) h = get_or_shift b i (λ j. h (suc j))

get_or-times_x : (b : List ℕ) (i : ℕ) → Block b
    → get_or (times_x b) i 0 ≡ bit_xor (bit_xor (get_or b i 0 * 2 % 256) (get_or b (suc i) 0 / 128)) (get_or (reduction (get_or b 0 0 / 128)) i 0)
unfolding times_x
get_or-times_x b i h =
    get_or-xor (shift_left b) (reduction (carry b)) i (length_shift b ∙ h.long ∙ sym (length-reduction (carry b)))
    ∙ ap₂ (λ (x t : ℕ). bit_xor x (get_or (reduction t) i 0)) (get_or_shift b i h.bytes) (carry_at b h.bytes)

-- the last byte, with 87 where a one fell out
pub times_x_last : (b : List ℕ) → Block b → bit_xor (get_or b 15 0 * 2 % 256) (get_or b 0 0 / 128 * 0x87) ≡ get_or (times_x b) 15 0
unfolding reduction
times_x_last b h =
    let z : get_or b 16 0 ≡ 0 = get_or-eq_default b 0 {n = 16} (le_of_eq h.long) in
    sym (get_or-times_x b 15 h
    ∙ ap (λ (k : ℕ). bit_xor (bit_xor (get_or b 15 0 * 2 % 256) (k / 128)) (get_or b 0 0 / 128 * 0x87)) z
    ∙ ap (λ (k : ℕ). bit_xor k (get_or b 0 0 / 128 * 0x87)) (xor_zero_r (get_or b 15 0 * 2 % 256)))
