-- A step at each block.
use Rattle.std.specs.Prelude.{◌≡◌, List, ℕ}
use Rattle.groups.specs.Group.{block_of, in_front}

-- The n blocks in front of a list went through a step that answers as `step` says: whatever function of the block that is.
abbrev pub EachBlock : (List ℕ → List ℕ → Type 0) → ℕ → List ℕ → List ℕ → Type 0
EachBlock step n old new = (f : List ℕ → List ℕ) → ((b r : List ℕ) → step b r → r ≡ f b) → new ≡ in_front n (λ i. f (block_of old i)) old
