-- What the functions below the calls ask and give, once nothing is refused.
use Rattle.std.specs.Prelude.{◌≡◌, Bool, not, List, [], ◌∷◌, ◌++◌, ℕ, ◌+◌, ◌*◌, ◌/◌, ◌%◌, eqb}
use Rattle.blocks.specs.Bytes.{zeros}
use Rattle.mode.specs.Mode.{Finish, overhead, Pass}
use Rattle.mode.specs.Aes.{aes}
use Rattle.mode.specs.Table.{not_key, not16, beyond, zero_mask}

-- a text sealed in front of an output, of which this many bytes are left
pub record TextSealed (p : Pass) (left : ℕ) (new mask preauthenticator : List ℕ) : Type 0 where
  pub written : new ≡ p.output ++ zeros left
  pub masked : mask ≡ p.mask
  pub authenticated : preauthenticator ≡ p.preauthenticator

-- the rows that sealing and checking a run share, by the number of its bytes as it is laid out
abbrev pub run_rows : List ℕ → List ℕ → ℕ → ℕ → List (ℕ × Bool)
run_rows key iv first size =
    (1, not_key key)
    ∷ (2, not16 iv)
    ∷ (3, not (eqb (size % 16) 0))
    ∷ (4, beyond first (size / 16))
    ∷ (10, zero_mask aes key iv)
    ∷ []

-- the bytes of the sealed record of a message of n bytes
abbrev pub sealed_length : Finish → ℕ → ℕ
sealed_length t n = n / 16 * 16 + (16 + overhead t)
