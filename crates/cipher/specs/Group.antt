-- Many blocks at once. Block i of a group becomes what FIPS 197 makes of it, for each i below n; the blocks from n on are not spoken of, so
-- that an engine may work on all 32.
use Rattle.std.specs.Prelude.{List, ℕ}
use Rattle.fips197.specs.Aes.{first_half, inv_second_half, encrypt, decrypt}
use Rattle.groups.specs.Group.{block_at, Holds}

-- n blocks enciphered, and their middletexts
pub record Enciphered (n : ℕ) (key old new middle : List ℕ) : Type 0 where
  pub middletexts : Holds n (λ i. first_half key (block_at old i)) middle
  pub blocks : Holds n (λ i. encrypt key (block_at old i)) new

-- n blocks deciphered, and their middletexts
pub record Deciphered (n : ℕ) (key old new middle : List ℕ) : Type 0 where
  pub middletexts : Holds n (λ i. inv_second_half key (block_at old i)) middle
  pub blocks : Holds n (λ i. decrypt key (block_at old i)) new

-- the middletexts alone, from ciphertext
abbrev pub Middletexts : ℕ → List ℕ → List ℕ → List ℕ → Type 0
Middletexts n key old new = Holds n (λ i. inv_second_half key (block_at old i)) new
