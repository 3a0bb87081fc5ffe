-- What the functions below the call ask and give.
use Rattle.std.specs.Prelude.{Option as Found, None, Some, ◌≡◌, Bool, List, [], ◌∷◌, ◌++◌, ℕ, ◌%◌, ◌-◌, ◌≤◌, length, take}
use Rattle.std.proofs.Math.Option.{Option, some, none as no-message}
use Rattle.mode.specs.Mode.{Finish, ciphertext, zero_block, blocks_of, pass, iv_part}
use Rattle.mode.specs.Aes.{aes}
use Rattle.mode.specs.Table.{decide, not_key, not_sealed, zero_mask, too_short}
use Rattle.mode.specs.Calls.{Outcome, outcome_by, held_tag, decrypted, unpadded, not_padded, or_empty}

-- the rows of opening that stand before 6
abbrev pub open_first_rows : Finish → List ℕ → List ℕ → List (ℕ × Bool)
open_first_rows t key sealed = (1, not_key key) ∷ (3, not_sealed t sealed) ∷ (10, zero_mask aes key (iv_part sealed)) ∷ []

-- a ciphertext: whole blocks, one at least
pub record Ciphertext (text : List ℕ) : Type 0 where
  pub least : 16 ≤ length text
  pub aligned : length text % 16 ≡ 0

-- the plaintext of the blocks before the last, from a start mask
unfoldable pub front_of : List ℕ → List ℕ → List ℕ → List ℕ
front_of key mask text = decrypted aes key (blocks_of (take (length text - 16) text)) mask

-- the tag that a ciphertext gives, as it is held, and the plaintext of its last block
pub record Checks (t : Finish) (key mask text tag last : List ℕ) : Type 0 where
  pub tagged : tag ≡ held_tag (t.tag_from aes key (pass aes ciphertext key (blocks_of text) mask zero_block).preauthenticator (pass aes ciphertext key (blocks_of text) mask zero_block).mask)
  pub opened : front_of key mask text ++ last ≡ decrypted aes key (blocks_of text) mask
  pub long : length last ≡ 16

-- where the message ends in a last block, if this is padded
unfoldable pub end_by : Option (List ℕ) → Found ℕ
end_by no-message = None
end_by (some message) = Some (length message)

unfoldable pub message_end : List ℕ → Found ℕ
message_end block = end_by (unpadded block)

-- what opening comes to once the tag is right: the message, 7 or 5
unfoldable pub released : List ℕ → ℕ → Outcome (List ℕ)
released text room =
    let message = or_empty (unpadded text) in
    outcome_by (decide ((7, not_padded (unpadded text)) ∷ (5, too_short room (length message)) ∷ []) message) message room
