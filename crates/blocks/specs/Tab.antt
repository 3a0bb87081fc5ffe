-- A list by its index: f 0, f 1, .., n elements.
use Rattle.std.specs.Prelude.{List, [], ◌∷◌, ℕ, zero, suc}

-- n elements, from f k on
abbrev pub tab_from : ℕ → ℕ → (ℕ → ℕ) → List ℕ
tab_from k zero f = []
tab_from k (suc n) f = f k ∷ tab_from (suc k) n f

abbrev pub tab : ℕ → (ℕ → ℕ) → List ℕ
tab n f = tab_from 0 n f
