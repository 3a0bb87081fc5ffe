-- A group: up to 32 blocks in 64-bit words, two to a block as Words has them. And blocks by their number: those of a group, or of a list of
-- bytes.
use Rattle.std.specs.Prelude.{◌≡◌, List, [], ◌++◌, ℕ, zero, suc, ◌+◌, ◌*◌, ◌≤◌, ◌<◌, length, get_or, take, drop}
use Rattle.blocks.specs.Words.{bytes_of}

-- block i of a group
unfoldable pub block_at : List ℕ → ℕ → List ℕ
block_at group i = bytes_of (record { high = get_or group (i * 2) 0; low = get_or group (i * 2 + 1) 0 })

-- block i of a list of bytes
unfoldable pub block_of : List ℕ → ℕ → List ℕ
block_of bytes i = take 16 (drop (i * 16) bytes)

-- The first n blocks of a group are as b says. Of the others nothing is known.
pub record Holds (n : ℕ) (b : ℕ → List ℕ) (group : List ℕ) : Type 0 where
  pub long : length group ≡ 64
  pub at : (i : ℕ) → i < n → block_at group i ≡ b i

-- n blocks, one after another
unfoldable pub in_turn : ℕ → (ℕ → List ℕ) → List ℕ
in_turn zero b = []
in_turn (suc n) b = in_turn n b ++ b n

-- the same, written to the front of a list of bytes
abbrev pub in_front : ℕ → (ℕ → List ℕ) → List ℕ → List ℕ
in_front n b bytes = in_turn n b ++ drop (n * 16) bytes

-- block i was set, and no other
pub record Put (i : ℕ) (b old new : List ℕ) : Type 0 where
  pub long : length new ≡ 64
  pub there : block_at new i ≡ b
  pub others : (j : ℕ) → (j ≡ i → ⊥) → block_at new j ≡ block_at old j

-- some of the blocks that are left
pub record InGroup (left n : ℕ) : Type 0 where
  pub some : 0 < n
  pub within : n ≤ left
  pub fits : n ≤ 32
