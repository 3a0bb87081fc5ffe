-- FIPS 197, 5.1.1 and 5.3.2: the S-box and its inverse by their rule.
use Rattle.std.specs.Prelude.{ℕ, ◌+◌, ◌*◌, ◌/◌, ◌%◌, ◌^◌}
use Rattle.std.specs.Int.Bits.{bit_xor}
use Rattle.fips197.specs.Gf256.{inverse}

abbrev pub bit : ℕ → ℕ → ℕ
bit b i = b / 2 ^ i % 2

-- the byte whose bit i is f i
abbrev pub from_bits : (ℕ → ℕ) → ℕ
from_bits f = f 0 + f 1 * 2 + f 2 * 4 + f 3 * 8 + f 4 * 16 + f 5 * 32 + f 6 * 64 + f 7 * 128

-- 5.1.1: b'ᵢ is bᵢ + b₍ᵢ₊₄₎ + b₍ᵢ₊₅₎ + b₍ᵢ₊₆₎ + b₍ᵢ₊₇₎ + cᵢ, the indices modulo 8, where c is 63
unfoldable pub affine : ℕ → ℕ
affine b =
    from_bits (λ i. bit_xor (bit b i) (bit_xor (bit b ((i + 4) % 8)) (bit_xor (bit b ((i + 5) % 8)) (bit_xor (bit b ((i + 6) % 8)) (bit_xor (bit b ((i + 7) % 8)) (bit 0x63 i))))))

-- the affine step undone: bᵢ is b'₍ᵢ₊₂₎ + b'₍ᵢ₊₅₎ + b'₍ᵢ₊₇₎ + dᵢ, where d is 05
unfoldable pub inv_affine : ℕ → ℕ
inv_affine b = from_bits (λ i. bit_xor (bit b ((i + 2) % 8)) (bit_xor (bit b ((i + 5) % 8)) (bit_xor (bit b ((i + 7) % 8)) (bit 0x05 i))))

-- 5.1.1, SBOX(): the inverse, then the affine step
unfoldable pub sbox : ℕ → ℕ
sbox b = affine (inverse b)

-- 5.3.2, INVSBOX(): the affine step undone, then the inverse
unfoldable pub inv_sbox : ℕ → ℕ
inv_sbox b = inverse (inv_affine b)
