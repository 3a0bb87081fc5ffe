-- What each call answers: a total function of the contents handed in and of the length of the lent output, and of nothing else. A name that ends in
-- `_within` is the call with any limit n; the call itself has `limit`.
use Rattle.std.proofs.Math.Option.{Option, some, none as no-message}
use Rattle.std.specs.Prelude.{Result, List, [], ◌∷◌, ◌++◌, Bool, true, false, cond, not, ℕ, zero, suc, ◌+◌, ◌*◌, ◌-◌, length, take, ℤ}
use Rattle.blocks.specs.Bytes.{xor_bytes, same, zeros}
use Rattle.gf128.specs.Gf128.{times_x, jump, jump_by}
use Rattle.fips180.specs.Sha1.{sha1}
use Rattle.mode.specs.Mode.{Cipher, Finish, Source, plaintext, ciphertext, Pass, Form, RunRecord, in_words, blocks_of, padded, zero_block, start_mask, middletext, pass, unbroken_tag, sealed_record, iv_part, cipher_part, tag_part}
use Rattle.mode.specs.Table.{Answer, refused, given, decide, limit, not_key, not16, unaligned, too_long_within, not_tag, not_sealed_within, beyond_within, any_beyond_within, too_far_within, unhashable, apart, none, not_whole, zero_mask, too_short}
use Rattle.mode.specs.Refusals.{Refusal, answered}
-- a sealed run, as the code declares it
pub use Rattle.mode.specs.declared.SealedRun.{SealedRun}

-- what a call that writes comes to: its answer, the number of answer bytes (0 beside a refusal) and the whole lent output
pub record Outcome (A : Type 0) : Type 0 where
  pub answer : Answer A
  pub reported : ℕ
  pub output : List ℕ

-- its answer bytes: as many as it reports
abbrev pub answer_bytes : {A : Type 0} → Outcome A → List ℕ
answer_bytes o = take o.reported o.output

-- on success these bytes, and zeros beyond them; all zeros on refusal
unfoldable pub outcome_by : {A : Type 0} → Answer A → List ℕ → ℕ → Outcome A
outcome_by (refused number) bytes room = record { answer = refused number; reported = 0; output = zeros room }
outcome_by (given a) bytes room = record { answer = given a; reported = length bytes; output = bytes ++ zeros (room - length bytes) }

-- ---- runs, with their record in any form

-- a middle run is a multiple of 16 bytes; a last run has any length and gets the padding
pub data Kind : Type 0 where
  middle last : Kind

unfoldable pub blocks_of_run : Kind → List ℕ → List (List ℕ)
blocks_of_run middle bytes = blocks_of bytes
blocks_of_run last bytes = blocks_of (padded bytes)

unfoldable pub unaligned_run : Kind → List ℕ → Bool
unaligned_run middle bytes = unaligned bytes
unaligned_run last bytes = false

module _ (c : Cipher) where
  abbrev pub seal_run_rows_within : ℕ → List ℕ → List ℕ → ℕ → Kind → List ℕ → ℕ → List (ℕ × Bool)
  seal_run_rows_within n key iv first kind bytes room =
      (1, not_key key)
      ∷ (2, not16 iv)
      ∷ (3, unaligned_run kind bytes)
      ∷ (4, beyond_within n first (length (blocks_of_run kind bytes)))
      ∷ (10, zero_mask c key iv)
      ∷ (5, too_short room (16 * length (blocks_of_run kind bytes)))
      ∷ []

  abbrev pub check_run_rows_within : ℕ → List ℕ → List ℕ → ℕ → List ℕ → List (ℕ × Bool)
  check_run_rows_within n key iv first bytes =
      (1, not_key key)
      ∷ (2, not16 iv)
      ∷ (3, unaligned bytes)
      ∷ (4, beyond_within n first (length (blocks_of bytes)))
      ∷ (10, zero_mask c key iv)
      ∷ []

  abbrev pub seal_run_rows : List ℕ → List ℕ → ℕ → Kind → List ℕ → ℕ → List (ℕ × Bool)
  seal_run_rows = seal_run_rows_within limit

  abbrev pub check_run_rows : List ℕ → List ℕ → ℕ → List ℕ → List (ℕ × Bool)
  check_run_rows = check_run_rows_within limit

  -- step 2 over a run that starts at block `first`: its mask is the start mask jumped by `first`
  unfoldable pub pass_from : Source → List ℕ → List ℕ → ℕ → List (List ℕ) → Pass
  pass_from s key iv first blocks = pass c s key blocks (jump first (start_mask c key iv)) zero_block

module _ (f : Form) (c : Cipher) where
  -- the run's record
  unfoldable pub run_record : Source → List ℕ → List ℕ → ℕ → List (List ℕ) → f.Record
  run_record s key iv first blocks = f.make first (length blocks) (pass_from c s key iv first blocks).preauthenticator

  -- SEAL A RUN
  abbrev pub seal_run_within : ℕ → List ℕ → List ℕ → ℕ → Kind → List ℕ → ℕ → Outcome f.Record
  seal_run_within n key iv first kind bytes room =
      let blocks = blocks_of_run kind bytes in
      outcome_by (decide (seal_run_rows_within c n key iv first kind bytes room) (run_record plaintext key iv first blocks)) (pass_from c plaintext key iv first blocks).output room

  unfoldable pub seal_run : List ℕ → List ℕ → ℕ → Kind → List ℕ → ℕ → Outcome f.Record
  seal_run key iv first kind bytes room = seal_run_within limit key iv first kind bytes room

  -- CHECK A RUN of ciphertext: the record that sealing would give, and no plaintext
  abbrev pub check_run_within : ℕ → List ℕ → List ℕ → ℕ → List ℕ → Answer f.Record
  check_run_within n key iv first bytes = decide (check_run_rows_within c n key iv first bytes) (run_record ciphertext key iv first (blocks_of bytes))

  unfoldable pub check_run : List ℕ → List ℕ → ℕ → List ℕ → Answer f.Record
  check_run key iv first bytes = check_run_within limit key iv first bytes

-- ---- records, in any form

module _ (f : Form) where
  -- Joining left and right: the left one's first block, the counts added, the left pre-authenticator multiplied by the variable as many
  -- times as the right has blocks, plus the right one.
  unfoldable pub joined : f.Record → f.Record → f.Record
  joined l r = f.make (f.first l) (f.count l + f.count r) (xor_bytes (jump (f.count r) (f.preauthenticator l)) (f.preauthenticator r))

  unfoldable pub joined_onto : f.Record → List f.Record → f.Record
  joined_onto l [] = l
  joined_onto l (r ∷ rs) = joined_onto (joined l r) rs

  -- what stands where there is no record
  abbrev pub blank : f.Record
  blank = f.make 0 0 zero_block

  -- a list from the left; a list of one record gives that record
  unfoldable pub joined_all : List f.Record → f.Record
  joined_all [] = blank
  joined_all (r ∷ rs) = joined_onto r rs

  -- JOIN two records
  abbrev pub join_two_rows_within : ℕ → f.Record → f.Record → List (ℕ × Bool)
  join_two_rows_within n l r = (4, any_beyond_within n f (l ∷ r ∷ [])) ∷ (8, apart f (l ∷ r ∷ [])) ∷ []

  abbrev pub join_two_rows : f.Record → f.Record → List (ℕ × Bool)
  join_two_rows = join_two_rows_within limit

  abbrev pub join_two_within : ℕ → f.Record → f.Record → Answer f.Record
  join_two_within n l r = decide (join_two_rows_within n l r) (joined l r)

  unfoldable pub join_two : f.Record → f.Record → Answer f.Record
  join_two l r = join_two_within limit l r

  -- JOIN A LENT LIST: row 4 of any record beats row 8 of any pair
  abbrev pub join_list_rows_within : ℕ → List f.Record → List (ℕ × Bool)
  join_list_rows_within n rs = (4, any_beyond_within n f rs) ∷ (8, apart f rs) ∷ (9, none rs) ∷ []

  abbrev pub join_list_rows : List f.Record → List (ℕ × Bool)
  join_list_rows = join_list_rows_within limit

  abbrev pub join_list_within : ℕ → List f.Record → Answer f.Record
  join_list_within n rs = decide (join_list_rows_within n rs) (joined_all rs)

  unfoldable pub join_list : List f.Record → Answer f.Record
  join_list rs = join_list_within limit rs

  module _ (c : Cipher) where
    abbrev pub close_rows_within : ℕ → List ℕ → List ℕ → f.Record → List (ℕ × Bool)
    close_rows_within n key iv r =
        (1, not_key key)
        ∷ (2, not16 iv)
        ∷ (4, beyond_within n (f.first r) (f.count r))
        ∷ (9, not_whole f r)
        ∷ (10, zero_mask c key iv)
        ∷ []

    abbrev pub close_rows : List ℕ → List ℕ → f.Record → List (ℕ × Bool)
    close_rows = close_rows_within limit

  module _ (t : Finish) (c : Cipher) where
    -- the tag of a whole record
    unfoldable pub closing_tag : List ℕ → List ℕ → f.Record → List ℕ
    closing_tag key iv r = t.tag_from c key (f.preauthenticator r) (jump (f.count r) (start_mask c key iv))

    -- CLOSE a record into its tag
    abbrev pub close_within : ℕ → List ℕ → List ℕ → f.Record → Answer (List ℕ)
    close_within n key iv r = decide (close_rows_within c n key iv r) (closing_tag key iv r)

    unfoldable pub close : List ℕ → List ℕ → f.Record → Answer (List ℕ)
    close key iv r = close_within limit key iv r

    -- TEST a tag against a record: it passes if closing gives that tag
    abbrev pub test_rows_within : ℕ → List ℕ → List ℕ → f.Record → List ℕ → List (ℕ × Bool)
    test_rows_within n key iv r tag =
        (1, not_key key)
        ∷ (2, not16 iv)
        ∷ (3, not_tag t tag)
        ∷ (4, beyond_within n (f.first r) (f.count r))
        ∷ (9, not_whole f r)
        ∷ (10, zero_mask c key iv)
        ∷ (6, not (same (closing_tag key iv r) tag))
        ∷ []

    abbrev pub test_rows : List ℕ → List ℕ → f.Record → List ℕ → List (ℕ × Bool)
    test_rows = test_rows_within limit

    abbrev pub test_within : ℕ → List ℕ → List ℕ → f.Record → List ℕ → Answer (Unit {0})
    test_within n key iv r tag = decide (test_rows_within n key iv r tag) tt

    unfoldable pub test : List ℕ → List ℕ → f.Record → List ℕ → Answer (Unit {0})
    test key iv r tag = test_within limit key iv r tag

-- ---- whole lists

-- the message of which `padded` gives these bytes, looked for among those that are up to k bytes shorter, the shortest first. At most one
-- message fits (`padded_once` in proofs/Bytes.antt), so the order makes no difference.
unfoldable pub unpad_from : ℕ → List ℕ → Option (List ℕ)
unpad_from zero bytes = no-message
unpad_from (suc k) bytes =
    let message = take (length bytes - suc k) bytes in
    cond (same (padded message) bytes) (some message) (unpad_from k bytes)

-- the message of which `padded` gives these bytes
unfoldable pub unpadded : List ℕ → Option (List ℕ)
unpadded bytes = unpad_from 16 bytes

-- 7: not padded as above
unfoldable pub not_padded : Option (List ℕ) → Bool
not_padded no-message = true
not_padded (some message) = false

unfoldable pub or_empty : Option (List ℕ) → List ℕ
or_empty no-message = []
or_empty (some message) = message

module _ (t : Finish) (c : Cipher) where
  abbrev pub seal_rows_within : ℕ → List ℕ → List ℕ → List ℕ → ℕ → List (ℕ × Bool)
  seal_rows_within n key iv message room =
      (1, not_key key)
      ∷ (2, not16 iv)
      ∷ (3, too_long_within n message)
      ∷ (10, zero_mask c key iv)
      ∷ (5, too_short room (length (sealed_record t c key iv message)))
      ∷ []

  abbrev pub seal_rows : List ℕ → List ℕ → List ℕ → ℕ → List (ℕ × Bool)
  seal_rows = seal_rows_within limit

  -- SEAL a message: the answer is the sealed record
  abbrev pub seal_within : ℕ → List ℕ → List ℕ → List ℕ → ℕ → Outcome (List ℕ)
  seal_within n key iv message room = outcome_by (decide (seal_rows_within n key iv message room) (sealed_record t c key iv message)) (sealed_record t c key iv message) room

  unfoldable pub seal : List ℕ → List ℕ → List ℕ → ℕ → Outcome (List ℕ)
  seal key iv message room = seal_within limit key iv message room

module _ (c : Cipher) where
  -- the plaintext: the first half run backwards on the middletext, plus the mask
  unfoldable pub decrypted : List ℕ → List (List ℕ) → List ℕ → List ℕ
  decrypted key [] mask = []
  decrypted key (block ∷ blocks) mask =
      xor_bytes (c.first_half_back key (middletext c ciphertext key mask block)) mask ++ decrypted key blocks (times_x mask)

module _ (t : Finish) (c : Cipher) where
  unfoldable pub plaintext_of : List ℕ → List ℕ → List ℕ
  plaintext_of key sealed = decrypted c key (blocks_of (cipher_part t sealed)) (start_mask c key (iv_part sealed))

  -- the message of a record whose plaintext is padded
  abbrev pub message_of : List ℕ → List ℕ → List ℕ
  message_of key sealed = or_empty (unpadded (plaintext_of key sealed))

  -- Ticket P6: row 5 compares the output with the message, and comes after 7.
  unfoldable pub open_rows_within : ℕ → List ℕ → List ℕ → ℕ → List (ℕ × Bool)
  open_rows_within n key sealed room =
      (1, not_key key)
      ∷ (3, not_sealed_within n t sealed)
      ∷ (10, zero_mask c key (iv_part sealed))
      ∷ (6, not (same (unbroken_tag t c ciphertext key (iv_part sealed) (blocks_of (cipher_part t sealed))) (tag_part t sealed)))
      ∷ (7, not_padded (unpadded (plaintext_of key sealed)))
      ∷ (5, too_short room (length (message_of key sealed)))
      ∷ []

  abbrev pub open_rows : List ℕ → List ℕ → ℕ → List (ℕ × Bool)
  open_rows = open_rows_within limit

  -- OPEN a sealed record: the answer is the message
  abbrev pub open_within : ℕ → List ℕ → List ℕ → ℕ → Outcome (List ℕ)
  open_within n key sealed room = outcome_by (decide (open_rows_within n key sealed room) (message_of key sealed)) (message_of key sealed) room

  unfoldable pub open_sealed : List ℕ → List ℕ → ℕ → Outcome (List ℕ)
  open_sealed key sealed room = open_within limit key sealed room

-- ---- masks

abbrev pub jump_rows_within : ℕ → List ℕ → ℤ → ℕ → List (ℕ × Bool)
jump_rows_within n mask distance room = (3, not16 mask) ∷ (4, too_far_within n distance) ∷ (5, too_short room 16) ∷ []

abbrev pub jump_rows : List ℕ → ℤ → ℕ → List (ℕ × Bool)
jump_rows = jump_rows_within limit

-- JUMP a mask by a signed distance
abbrev pub jump_mask_within : ℕ → List ℕ → ℤ → ℕ → Outcome (List ℕ)
jump_mask_within n mask distance room = outcome_by (decide (jump_rows_within n mask distance room) (jump_by distance mask)) (jump_by distance mask) room

unfoldable pub jump_mask : List ℕ → ℤ → ℕ → Outcome (List ℕ)
jump_mask mask distance room = jump_mask_within limit mask distance room

-- ---- SHA-1 (ticket P4)

abbrev pub sha1_rows : List ℕ → ℕ → List (ℕ × Bool)
sha1_rows text room = (3, unhashable text) ∷ (5, too_short room 20) ∷ []

-- SHA-1 of a text: the answer is the digest
unfoldable pub sha1_text : List ℕ → ℕ → Outcome (List ℕ)
sha1_text text room = outcome_by (decide (sha1_rows text room) (sha1 text)) (sha1 text) room

-- ---- the calls of which demand 3 speaks, any way they may answer

pub record Calls : Type 0 where
  pub seals_run : List ℕ → List ℕ → ℕ → Kind → List ℕ → ℕ → Outcome RunRecord
  pub checks_run : List ℕ → List ℕ → ℕ → List ℕ → Answer RunRecord
  pub joins_two : RunRecord → RunRecord → Answer RunRecord
  pub joins_list : List RunRecord → Answer RunRecord
  pub closes : Finish → List ℕ → List ℕ → RunRecord → Answer (List ℕ)
  pub tests : Finish → List ℕ → List ℕ → RunRecord → List ℕ → Answer (Unit {0})

-- ours: what the contracts cite
abbrev pub calls_of : Cipher → Calls
calls_of c =
    record {
      seals_run = seal_run in_words c;
      checks_run = check_run in_words c;
      joins_two = join_two in_words;
      joins_list = join_list in_words;
      closes = λ t. close in_words t c;
      tests = λ t. test in_words t c;
    }

-- ---- the answers as the code gives them: beside a refusal there is nothing

-- document 01's number of a refusal; 0 stands for none
unfoldable pub number : {A : Type 0} → Answer A → ℕ
number (refused n) = n
number (given a) = 0

-- the number of answer bytes
abbrev pub written_of : {A : Type 0} → Outcome A → Result ℕ Refusal
written_of o = answered (λ a. o.reported) o.answer

-- that, and the record
abbrev pub sealed_run_of : Outcome RunRecord → Result SealedRun Refusal
sealed_run_of o = answered (λ r. record { length = o.reported; run = r }) o.answer

abbrev pub record_of_answer : Answer RunRecord → Result RunRecord Refusal
record_of_answer a = answered (λ r. r) a

-- a tag as the code holds it: 20 bytes, zeros behind a shorter one
unfoldable pub held_tag : List ℕ → List ℕ
held_tag tag = tag ++ zeros (20 - length tag)

abbrev pub tag_of_answer : Answer (List ℕ) → Result (List ℕ) Refusal
tag_of_answer a = answered held_tag a

-- whether a tag passed
abbrev pub test_of_answer : Answer (Unit {0}) → Result (Unit {0}) Refusal
test_of_answer a = answered (λ u. u) a
