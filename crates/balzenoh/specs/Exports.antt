-- What each exported function comes to, over the outcomes of the calls.
use Rattle.std.specs.Prelude.{Result, Ok, Err, ◌≡◌, Bool, cond, not, ◌||◌, List, [], ◌∷◌, ℕ, ◌%◌, eqb, length, take}
use Rattle.blocks.specs.Bytes.{zeros}
use Rattle.mode.specs.declared.RunRecord.{RunRecord}
use Rattle.mode.specs.declared.SealedRun.{SealedRun}
use Rattle.mode.specs.declared.refusal.Refusal.{Refusal}
use Rattle.mode.specs.declared.refusal.Refusal.TheVariants.{OutputTooShort, RecordLength}
use Rattle.std.specs.Result.{result_unwrap_or}
use Rattle.mode.specs.Refusals.{number_in}
use Rattle.mode.specs.Mode.{Finish, in_words}
use Rattle.mode.specs.Aes.{aes}
use Rattle.mode.specs.Table.{decide, too_short}
use Rattle.mode.specs.Calls.{Outcome, outcome_by, seal_run, check_run, join_two, join_list, close, test, number, blank, record_of_answer, tag_of_answer}
use Rattle.calls.specs.Layout.{kind_of}
use Rattle.record_bytes.specs.Encoding.{encoded, decoded, records_of}

-- ---- what comes back, by the outcome of a call

-- the number, and the lent output
pub record Returned {A : Type 0} (o : Outcome A) (n : ℕ) (out : List ℕ) : Type 0 where
  pub answer : n ≡ number o.answer
  pub output : out ≡ o.output

-- the number, the reported length, and the lent output
pub record Reported {A : Type 0} (o : Outcome A) (n reported : ℕ) (out : List ℕ) : Type 0 where
  pub answer : n ≡ number o.answer
  pub written : reported ≡ o.reported
  pub output : out ≡ o.output

-- ---- an answer that is written to a lent output: the call's refusal, or 5 where the output is too short

abbrev pub lent_rows : ℕ → ℕ → ℕ → List (ℕ × Bool)
lent_rows refusal room needed = (refusal, not (eqb refusal 0)) ∷ (5, too_short room needed) ∷ []

unfoldable pub lent : ℕ → ℕ → List ℕ → ℕ → Outcome (List ℕ)
lent refusal needed bytes room = outcome_by (decide (lent_rows refusal room needed) bytes) bytes room

abbrev pub lent_record : Result RunRecord Refusal → ℕ → Outcome (List ℕ)
lent_record a room = lent (number_in a) 24 (encoded (result_unwrap_or a (blank in_words))) room

-- a tag without the zeros that it is held with
abbrev pub lent_tag : Finish → Result (List ℕ) Refusal → ℕ → Outcome (List ℕ)
lent_tag t a room = lent (number_in a) t.tag_length (take t.tag_length (result_unwrap_or a (zeros 20))) room

-- a call's answer, or 5 where it has no room
unfoldable pub with_room : {A : Type 0} → Result A Refusal → ℕ → ℕ → Result A Refusal
with_room (Ok x) room needed = cond (too_short room needed) (Err OutputTooShort) (Ok x)
with_room (Err r) room needed = Err r

-- ---- a record that is handed in

-- 24, the refusal of this layer, which comes before all others: not 24 bytes; a list: no multiple of 24
unfoldable pub not_record : List ℕ → Bool
not_record b = not (eqb (length b) 24)

unfoldable pub not_records : List ℕ → Bool
not_records b = not (eqb (length b % 24) 0)

-- JOIN
unfoldable pub join_bytes : List ℕ → List ℕ → Result RunRecord Refusal
join_bytes l r = cond (not_record l || not_record r) (Err RecordLength) (record_of_answer (join_two in_words (decoded l) (decoded r)))

-- JOIN A LIST
unfoldable pub join_list_bytes : List ℕ → Result RunRecord Refusal
join_list_bytes b = cond (not_records b) (Err RecordLength) (record_of_answer (join_list in_words (records_of b)))

-- CLOSE
unfoldable pub close_bytes : Finish → List ℕ → List ℕ → List ℕ → Result (List ℕ) Refusal
close_bytes t key iv r = cond (not_record r) (Err RecordLength) (tag_of_answer (close in_words t aes key iv (decoded r)))

-- TEST
unfoldable pub test_bytes : Finish → List ℕ → List ℕ → List ℕ → List ℕ → ℕ
test_bytes t key iv r tag = cond (not_record r) 24 (number (test in_words t aes key iv (decoded r) tag))

-- ---- SEAL A RUN

-- the parts of a sealed run's answer: the number of answer bytes, which is 0 beside a refusal, and the record
abbrev pub length_in : Result SealedRun Refusal → ℕ
length_in (Ok sealed) = sealed.length
length_in (Err r) = 0

abbrev pub run_in : Result SealedRun Refusal → Result RunRecord Refusal
run_in (Ok sealed) = Ok sealed.run
run_in (Err r) = Err r

-- the number, the reported length, the ciphertext's output and the record's
pub record RunOutcome : Type 0 where
  pub refusal : ℕ
  pub reported : ℕ
  pub output : List ℕ
  pub run : List ℕ

-- all four come back
pub record ReportedRun (o : RunOutcome) (n reported : ℕ) (out run : List ℕ) : Type 0 where
  pub answer : n ≡ o.refusal
  pub written : reported ≡ o.reported
  pub output : out ≡ o.output
  pub record-output : run ≡ o.run

-- The run is the last one unless `last` is 0. Its ciphertext has an output of `size` bytes, its record one of `room` bytes; where there is no
-- room for the record, the ciphertext is not kept.
unfoldable pub seal_run_bytes : List ℕ → List ℕ → ℕ → ℕ → List ℕ → ℕ → ℕ → RunOutcome
seal_run_bytes key iv first last bytes size room =
    let o = seal_run in_words aes key iv first (kind_of (not (eqb last 0))) bytes size in
    let r = lent_record (record_of_answer o.answer) room in
    record {
      refusal = number r.answer;
      reported = cond (too_short room 24) 0 o.reported;
      output = cond (too_short room 24) (zeros size) o.output;
      run = r.output;
    }

-- ---- CHECK A RUN

abbrev pub check_run_bytes : List ℕ → List ℕ → ℕ → List ℕ → Result RunRecord Refusal
check_run_bytes key iv first bytes = record_of_answer (check_run in_words aes key iv first bytes)
