-- What the functions below the calls ask and give.
use Rattle.std.specs.Prelude.{◌≡◌, Bool, List, [], ◌∷◌, ℕ}
use Rattle.cipher.specs.Keys.{Expands}
use Rattle.mode.specs.declared.RunRecord.{RunRecord}
use Rattle.mode.specs.Mode.{Finish, start_mask, in_words}
use Rattle.mode.specs.Aes.{aes}
use Rattle.mode.specs.Table.{not_key, not16, not_tag, beyond, not_whole, zero_mask}

-- a key schedule and a start mask
pub record Prepares (key iv keys start : List ℕ) : Type 0 where
  pub expanded : Expands key keys
  pub started : start ≡ start_mask aes key iv

-- the rows of a key and an IV
abbrev pub key_and_iv_rows : List ℕ → List ℕ → List (ℕ × Bool)
key_and_iv_rows key iv = (1, not_key key) ∷ (2, not16 iv) ∷ []

-- the rows that go by the record that is closed, and by the mask that closes it
abbrev pub record_rows : List ℕ → List ℕ → RunRecord → List (ℕ × Bool)
record_rows key iv r = (4, beyond r.first r.count) ∷ (9, not_whole in_words r) ∷ (10, zero_mask aes key iv) ∷ []

-- the rows of a test that stand before 6
abbrev pub test_first_rows : Finish → List ℕ → List ℕ → RunRecord → List ℕ → List (ℕ × Bool)
test_first_rows t key iv r tag = (1, not_key key) ∷ (2, not16 iv) ∷ (3, not_tag t tag) ∷ record_rows key iv r
