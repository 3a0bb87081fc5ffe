-- OPENING BEFORE TICKET P6, as document 01 has it: row 5 asks for as much output as there is ciphertext, and comes before 6. It stands here for
-- one theorem alone, `OldSize` on the demands page: where that much is lent, opening comes to what it came to before.
use Rattle.std.specs.Prelude.{List, [], ◌∷◌, Bool, not, ℕ, length}
use Rattle.blocks.specs.Bytes.{same}
use Rattle.mode.specs.Mode.{Cipher, Finish, ciphertext, blocks_of, unbroken_tag, iv_part, cipher_part, tag_part}
use Rattle.mode.specs.Table.{decide, not_key, not_sealed, zero_mask, too_short}
use Rattle.mode.specs.Calls.{Outcome, outcome_by, unpadded, not_padded, plaintext_of, message_of}

module _ (t : Finish) (c : Cipher) where
  unfoldable pub open_rows_before : List ℕ → List ℕ → ℕ → List (ℕ × Bool)
  open_rows_before key sealed room =
      (1, not_key key)
      ∷ (3, not_sealed t sealed)
      ∷ (10, zero_mask c key (iv_part sealed))
      ∷ (5, too_short room (length (cipher_part t sealed)))
      ∷ (6, not (same (unbroken_tag t c ciphertext key (iv_part sealed) (blocks_of (cipher_part t sealed))) (tag_part t sealed)))
      ∷ (7, not_padded (unpadded (plaintext_of t c key sealed)))
      ∷ []

  unfoldable pub open_before : List ℕ → List ℕ → ℕ → Outcome (List ℕ)
  open_before key sealed room = outcome_by (decide (open_rows_before key sealed room) (message_of t c key sealed)) (message_of t c key sealed) room
