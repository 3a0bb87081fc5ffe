-- What a table of 256 bytes holds.
use Rattle.std.specs.Prelude.{◌≡◌, List, ℕ, ◌<◌, get_or}

-- t has f at each byte
pub record Tabulates (t : List ℕ) (f : ℕ → ℕ) : Type 0 where
  pub at : (k : ℕ) → k < 256 → get_or t k 0 ≡ f k
