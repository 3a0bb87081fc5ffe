-- Bits moved apart: the square of a polynomial over GF(2) has the coefficient of x^i at x^(2 i), and nothing else.
use Rattle.std.specs.Prelude.{ℕ, zero, suc, ◌+◌, ◌*◌, ◌/◌, ◌%◌}

-- the n low bits of a, bit i at place 2 i
unfoldable pub spread : ℕ → ℕ → ℕ
spread zero a = 0
spread (suc n) a = spread n (a / 2) * 4 + a % 2
