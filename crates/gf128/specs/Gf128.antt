-- A block as a polynomial of degree below 128 (document 01, "The mode"): the top bit of the first byte is the coefficient of the
-- 127th power, the low bit of the last byte that of power 0. Division and the signed jump are ticket P1's.
use Rattle.std.specs.Prelude.{List, [], ◌∷◌, ◌++◌, Bool, true, false, ℕ, zero, suc, ◌*◌, ◌/◌, ◌%◌, ℤ, pos, negsuc, neg_ℤ, get_or}
use Rattle.std.specs.Int.Bits.{bit_xor}
use Rattle.blocks.specs.Bytes.{xor_bytes, zeros}
use Rattle.blocks.specs.Num.{num, low_bytes}
use Rattle.blocks.specs.Field.{mul}

-- the bit that falls out in a shift to the left: the top bit of the first byte
unfoldable pub carry : List ℕ → ℕ
carry [] = 0
carry (x ∷ b) = x / 128 % 2

-- the whole shifted left by one bit: a byte takes the top bit of the next one as its low bit
unfoldable pub shift_left : List ℕ → List ℕ
shift_left [] = []
shift_left (x ∷ b) = bit_xor (x * 2 % 256) (carry b) ∷ shift_left b

-- 87 in the last byte where the bit is set: the polynomial but for its top term
unfoldable pub reduction : ℕ → List ℕ
reduction bit = zeros 15 ++ (bit * 0x87 ∷ [])

-- Multiply by the variable: shift the whole left by one bit; if a one fell out, add 87 to the last byte by exclusive or.
unfoldable pub times_x : List ℕ → List ℕ
times_x b = xor_bytes (shift_left b) (reduction (carry b))

-- the jump by n blocks: n times that
unfoldable pub jump : ℕ → List ℕ → List ℕ
jump zero b = b
jump (suc n) b = times_x (jump n b)

-- ---- back

-- the low bit of the last byte
unfoldable pub low_bit : List ℕ → ℕ
low_bit b = get_or b 15 0 % 2

-- the whole shifted right by one bit: a byte takes the low bit of the one before it as its top bit, the first byte the bit `top`
unfoldable pub shift_right : ℕ → List ℕ → List ℕ
shift_right top [] = []
shift_right top (x ∷ b) = bit_xor (top * 128) (x / 2) ∷ shift_right (x % 2) b

-- Divide by the variable: where the low bit is set, add the polynomial first, then shift right. The polynomial is the one of degree 128,
-- so its top bit stands above the first byte, and comes in at the shift.
unfoldable pub over_x : List ℕ → List ℕ
over_x b = shift_right (low_bit b) (xor_bytes b (reduction (low_bit b)))

-- THE SIGNED JUMP: by n blocks the jump above; by -n, n divisions (`negsuc n` is -(n + 1))
unfoldable pub jump_by : ℤ → List ℕ → List ℕ
jump_by (pos n) b = jump n b
jump_by (negsuc zero) b = over_x b
jump_by (negsuc (suc n)) b = over_x (jump_by (negsuc n) b)

-- a distance by its direction and its number of blocks
unfoldable pub signed : Bool → ℕ → ℤ
signed false n = pos n
signed true n = neg_ℤ (pos n)

-- ---- the product of two blocks, which is that of their polynomials, as numbers

unfoldable pub product : List ℕ → List ℕ → List ℕ
product a b = low_bytes 16 (mul 127 0x87 (num a) (num b))

-- the polynomial 1, and x^d
unfoldable pub one : List ℕ
one = zeros 15 ++ (1 ∷ [])

unfoldable pub power : ℤ → List ℕ
power d = jump_by d one
