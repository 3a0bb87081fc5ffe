-- Bytes as one number.
use Rattle.std.specs.Prelude.{List, [], ◌∷◌, ℕ, zero, suc, ◌+◌, ◌*◌, ◌/◌, ◌%◌, ◌^◌, length}

-- the first byte is the highest
unfoldable pub num : List ℕ → ℕ
num [] = 0
num (x ∷ b) = x * 2 ^ (length b * 8) + num b

-- the n low bytes of a number, the highest first
unfoldable pub low_bytes : ℕ → ℕ → List ℕ
low_bytes zero v = []
low_bytes (suc n) v = v / 2 ^ (n * 8) % 256 ∷ low_bytes n v
