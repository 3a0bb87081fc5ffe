-- How far a block can be multiplied by x before a value comes again (ticket P11).
use Rattle.std.specs.Prelude.{◌≡◌, List, ℕ, ◌≤◌, ◌<◌}
use Rattle.blocks.specs.Bytes.{Block, zeros}
use Rattle.gf128.specs.Gf128.{jump}

-- the values f 0 to f n: none of them is z, and no two are equal
pub record Distinct {A : Type 0} (z : A) (n : ℕ) (f : ℕ → A) : Type 0 where
  pub nonzero : (i : ℕ) → i ≤ n → ¬ (f i ≡ z)
  pub different : (i j : ℕ) → i < j → j ≤ n → ¬ (f i ≡ f j)

-- One less than 6,700,417, the prime factor of 2^128 - 1 on which the proof rests. Values come again after 2^128 - 1 multiplications; whether
-- sooner is not asked here.
abbrev pub reach : ℕ
reach = 6700416

-- a block that is not zero, multiplied by x 0, 1, .., 6,700,416 times
abbrev pub DistinctJumps : Type 0
DistinctJumps = (b : List ℕ) → Block b → ¬ (b ≡ zeros 16) → Distinct (zeros 16) reach (λ i. jump i b)
