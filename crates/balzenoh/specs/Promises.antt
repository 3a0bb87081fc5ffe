-- What is promised of the exported functions, beside their contracts: the numbers that each may give, on every input; and after any number but
-- 0 every lent output is zero from end to end, and a reported length is 0. proofs/Promises.antt has the proof.
use Rattle.std.specs.Prelude.{◌≡◌, ◌⊎◌, List, [], ◌∷◌, ℕ, ℤ}
use Rattle.blocks.specs.Bytes.{zeros}
use Rattle.mode.specs.Mode.{Finish}
use Rattle.mode.specs.Aes.{aes}
use Rattle.mode.specs.Calls.{Outcome, seal, open_sealed, jump_mask, sha1_text, number}
use Rattle.balzenoh.specs.Exports.{lent_record, lent_tag, RunOutcome, seal_run_bytes, check_run_bytes, join_bytes, join_list_bytes, close_bytes, test_bytes}

-- n is one of these
unfoldable pub OneOf : List ℕ → ℕ → Type 0
OneOf [] n = ⊥
OneOf (k ∷ ks) n = (n ≡ k) ⊎ OneOf ks n

-- an output of `room` bytes, and with it the length that is reported where there is one
pub record Promised {A : Type 0} (numbers : List ℕ) (o : Outcome A) (room : ℕ) : Type 0 where
  pub numbered : OneOf numbers (number o.answer)
  pub zero : (number o.answer ≡ 0 → ⊥) → (o.output ≡ zeros room) × (o.reported ≡ 0)

-- a run: an output of `size` bytes for its ciphertext, and one of `room` bytes for its record
pub record PromisedRun (numbers : List ℕ) (o : RunOutcome) (size room : ℕ) : Type 0 where
  pub numbered : OneOf numbers o.refusal
  pub zero : (o.refusal ≡ 0 → ⊥) → (o.output ≡ zeros size) × ((o.reported ≡ 0) × (o.run ≡ zeros room))

-- 24 comes only from the four functions that take a record; every other number is the table's
pub record Promises : Type 0 where
  pub of_seal : (t : Finish) (key iv message : List ℕ) (room : ℕ) → Promised (0 ∷ 1 ∷ 2 ∷ 3 ∷ 10 ∷ 5 ∷ []) (seal t aes key iv message room) room
  pub of_open : (t : Finish) (key sealed : List ℕ) (room : ℕ) → Promised (0 ∷ 1 ∷ 3 ∷ 10 ∷ 6 ∷ 7 ∷ 5 ∷ []) (open_sealed t aes key sealed room) room
  pub of_seal_run : (key iv : List ℕ) (first last : ℕ) (bytes : List ℕ) (size room : ℕ)
      → PromisedRun (0 ∷ 1 ∷ 2 ∷ 3 ∷ 4 ∷ 10 ∷ 5 ∷ []) (seal_run_bytes key iv first last bytes size room) size room
  pub of_check_run : (key iv : List ℕ) (first : ℕ) (bytes : List ℕ) (room : ℕ)
      → Promised (0 ∷ 1 ∷ 2 ∷ 3 ∷ 4 ∷ 10 ∷ 5 ∷ []) (lent_record (check_run_bytes key iv first bytes) room) room
  pub of_join : (left right : List ℕ) (room : ℕ) → Promised (0 ∷ 24 ∷ 4 ∷ 8 ∷ 5 ∷ []) (lent_record (join_bytes left right) room) room
  pub of_join_list : (records : List ℕ) (room : ℕ) → Promised (0 ∷ 24 ∷ 4 ∷ 8 ∷ 9 ∷ 5 ∷ []) (lent_record (join_list_bytes records) room) room
  pub of_close : (t : Finish) (key iv run : List ℕ) (room : ℕ) → Promised (0 ∷ 24 ∷ 1 ∷ 2 ∷ 4 ∷ 9 ∷ 10 ∷ 5 ∷ []) (lent_tag t (close_bytes t key iv run) room) room
  pub of_test : (t : Finish) (key iv run tag : List ℕ) → OneOf (0 ∷ 24 ∷ 1 ∷ 2 ∷ 3 ∷ 4 ∷ 9 ∷ 10 ∷ 6 ∷ []) (test_bytes t key iv run tag)
  pub of_jump : (mask : List ℕ) (distance : ℤ) (room : ℕ) → Promised (0 ∷ 3 ∷ 4 ∷ 5 ∷ []) (jump_mask mask distance room) room
  pub of_sha1 : (text : List ℕ) (room : ℕ) → Promised (0 ∷ 3 ∷ 5 ∷ []) (sha1_text text room) room
