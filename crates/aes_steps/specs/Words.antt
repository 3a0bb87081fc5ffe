-- A schedule while its words are worked out.
use Rattle.std.specs.Prelude.{◌≡◌, ◌⊎◌, List, [], ◌∷◌, ◌++◌, ℕ, ◌+◌, ◌*◌, ◌≤◌, ◌<◌, length, drop}
use Rattle.blocks.specs.Bytes.{zeros}
use Rattle.fips197.specs.Aes.{nr_of}

-- the number of a word that is worked out, under a key of nk words: 4 or 8
pub record KeyWords (nk i : ℕ) : Type 0 where
  pub words : (nk ≡ 4) ⊎ (nk ≡ 8)
  pub least : nk ≤ i
  pub most : i < 4 * (nk + 7)

-- zeros, and the number of rounds
abbrev pub blank : List ℕ → List ℕ
blank key = zeros 240 ++ (nr_of key ∷ [])

-- the key before them
abbrev pub begun : List ℕ → List ℕ
begun key = key ++ drop (length key) (blank key)
