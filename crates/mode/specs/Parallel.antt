-- Sealing a message, or checking a ciphertext, in pieces: document 01, "The rack".
use Rattle.std.specs.Prelude.{◌≡◌, ◌⊎◌, List, [], ◌∷◌, ◌++◌, map, Bool, true, false, ℕ, zero, suc, ◌+◌, ◌-◌, ◌/◌, ◌%◌, ◌≤◌, ◌<◌, length, take, drop, get_or, set}
use Rattle.blocks.specs.Bytes.{Bytes, concat}
use Rattle.fips197.specs.Aes.{Key}
use Rattle.mode.specs.Mode.{Finish, overhead, Source, plaintext, ciphertext, RunRecord, in_words, iv_part, cipher_part}
use Rattle.mode.specs.Table.{Answer, refused, given, apart, longest_message, longest_sealed}
use Rattle.mode.specs.Calls.{Kind, middle, last, blocks_of_run, Outcome, outcome_by, blank, Calls}

-- ---- the setting

-- what is cut: a message that is sealed under an IV, or the ciphertext of a sealed record that is checked; and the finish, which cuts know
-- nothing of, but which says where a record's tag is
pub data Work : Type 0 where
  sealing : Finish → List ℕ → List ℕ → Work
  checking : Finish → List ℕ → Work

unfoldable pub source_of : Work → Source
source_of (sealing t iv message) = plaintext
source_of (checking t sealed) = ciphertext

unfoldable pub finish_of : Work → Finish
finish_of (sealing t iv message) = t
finish_of (checking t sealed) = t

unfoldable pub iv_of : Work → List ℕ
iv_of (sealing t iv message) = iv
iv_of (checking t sealed) = iv_part sealed

-- the bytes that are cut
unfoldable pub text_of : Work → List ℕ
text_of (sealing t iv message) = message
text_of (checking t sealed) = cipher_part t sealed

-- the last piece of a message carries the padding
unfoldable pub last_kind : Work → Kind
last_kind (sealing t iv message) = last
last_kind (checking t sealed) = middle

-- all blocks, nothing cut
unfoldable pub all_blocks : Work → List (List ℕ)
all_blocks w = blocks_of_run (last_kind w) (text_of w)

-- an IV of 16 bytes and a message within the limit; any bytes of a length that opening takes
unfoldable pub Fits : Work → Type 0
Fits (sealing t iv message) = (length iv ≡ 16) × (length message ≤ longest_message)
Fits (checking t sealed) =
    (16 + overhead t ≤ length sealed) × (length sealed ≤ longest_sealed t) × ((length sealed - overhead t) % 16 ≡ 0)

-- pieces, one or more, all multiples of 16 bytes but for a last one that carries the padding; empty ones are allowed
unfoldable pub Cut : Kind → List (List ℕ) → Type 0
Cut kind [] = ⊥
Cut middle (p ∷ []) = length p % 16 ≡ 0
Cut last (p ∷ []) = Unit {0}
Cut kind (p ∷ q ∷ ps) = (length p % 16 ≡ 0) × Cut kind (q ∷ ps)

pub record Setting : Type 0 where
  pub key : List ℕ
  pub work : Work
  pub pieces : List (List ℕ)

-- a key of 16 or 32 bytes; whatever is handed to a call is bytes
pub record WellFormed (s : Setting) : Type 0 where
  pub key_is : Key s.key
  pub iv_bytes : Bytes (iv_of s.work)
  pub text_bytes : Bytes (text_of s.work)
  pub fits : Fits s.work
  pub cut : Cut (last_kind s.work) s.pieces
  pub pieces_are : concat s.pieces ≡ text_of s.work

-- ---- runs and segments

-- one run of the cut: the block that it starts at, its kind and its bytes
pub record Run : Type 0 where
  pub first : ℕ
  pub kind : Kind
  pub bytes : List ℕ

-- the runs of the pieces: each starts at the block where the one before it ends
unfoldable pub runs_from : Kind → ℕ → List (List ℕ) → List Run
runs_from kind n [] = []
runs_from kind n (p ∷ []) = record { first = n; kind = kind; bytes = p } ∷ []
runs_from kind n (p ∷ q ∷ ps) =
    record { first = n; kind = middle; bytes = p } ∷ runs_from kind (n + length p / 16) (q ∷ ps)

-- Document 01's place: empty, for a run that is still to be made; or filled, with its runs in message order, the record that stands
-- there and the ciphertext that its runs wrote.
pub data Segment : Type 0 where
  pending : Run → Segment
  recorded : List Run → RunRecord → List ℕ → Segment

-- a segment's blocks are those of its runs
unfoldable pub blocks_of_runs : List Run → List (List ℕ)
blocks_of_runs [] = []
blocks_of_runs (r ∷ rs) = blocks_of_run r.kind r.bytes ++ blocks_of_runs rs

unfoldable pub runs_in : Segment → List Run
runs_in (pending r) = r ∷ []
runs_in (recorded rs r bytes) = rs

-- the record in a filled place (an empty one, from which no call of the list takes one, has a blank)
unfoldable pub record_in : Segment → RunRecord
record_in (pending r) = blank in_words
record_in (recorded rs r bytes) = r

unfoldable pub bytes_in : Segment → List ℕ
bytes_in (pending r) = []
bytes_in (recorded rs r bytes) = bytes

unfoldable pub is_recorded : Segment → Bool
is_recorded (pending r) = false
is_recorded (recorded rs r bytes) = true

unfoldable pub runs_of : List Segment → List Run
runs_of [] = []
runs_of (x ∷ xs) = runs_in x ++ runs_of xs

unfoldable pub bytes_of_segments : List Segment → List ℕ
bytes_of_segments [] = []
bytes_of_segments (x ∷ xs) = bytes_in x ++ bytes_of_segments xs

-- the blocks of consecutive segments
unfoldable pub blocks_in : List Segment → List (List ℕ)
blocks_in xs = blocks_of_runs (runs_of xs)

-- past the end
abbrev pub no_segment : Segment
no_segment = pending (record { first = 0; kind = middle; bytes = [] })

-- segment i
abbrev pub segment : List Segment → ℕ → Segment
segment xs i = get_or xs i no_segment

-- ---- the calls

-- Document 01's calls on the rack: seal (or check) the run of segment i, lent an output of some length; join the records of two
-- segments; join the records of a list of segments.
pub data Call : Type 0 where
  run_at : ℕ → ℕ → Call
  join_pair : ℕ → ℕ → Call
  join_many : List ℕ → Call

-- i, i + 1, .., i + k - 1
unfoldable pub consecutive : ℕ → ℕ → List ℕ
consecutive i zero = []
consecutive i (suc k) = i ∷ consecutive (suc i) k

unfoldable pub AllRecorded : List Segment → List ℕ → Type 0
AllRecorded xs [] = Unit {0}
AllRecorded xs (i ∷ is) = (is_recorded (segment xs i) ≡ true) × AllRecorded xs is

abbrev pub records_at : List Segment → List ℕ → List RunRecord
records_at xs is = map (λ i. record_in (segment xs i)) is

-- Which calls may stand in the list: a run whose place is empty; a join of filled places that are neighbours, in rack order, two, or
-- one or more as a list; the empty list; any other choice of filled places where the table's condition for 8 holds. No other.
unfoldable pub Allowed : List Segment → Call → Type 0
Allowed xs (run_at i room) = (i < length xs) × (is_recorded (segment xs i) ≡ false)
Allowed xs (join_pair i j) = AllRecorded xs (i ∷ j ∷ []) × ((j ≡ suc i) ⊎ (apart in_words (records_at xs (i ∷ j ∷ [])) ≡ true))
Allowed xs (join_many is) =
    AllRecorded xs is × (((i : ℕ) × (k : ℕ) × (is ≡ consecutive i (suc k))) ⊎ ((is ≡ []) ⊎ (apart in_words (records_at xs is) ≡ true)))

-- k segments from segment i give way to one, which has the joined record and all their runs and bytes; a refused call leaves them
unfoldable pub merge_by : Answer RunRecord → List Segment → ℕ → ℕ → List Segment
merge_by (refused number) xs i k = xs
merge_by (given r) xs i k =
    take i xs ++ recorded (runs_of (take k (drop i xs))) r (bytes_of_segments (take k (drop i xs))) ∷ drop k (drop i xs)

-- a run puts its record in its place, and beside it the answer bytes of its output; a refused one leaves it empty
unfoldable pub record_by : Answer RunRecord → Outcome RunRecord → List Segment → ℕ → List Segment
record_by (refused number) o xs i = xs
record_by (given r) o xs i = set xs i (recorded (runs_in (segment xs i)) r (take o.reported o.output))

unfoldable pub head_or : ℕ → List ℕ → ℕ
head_or d [] = d
head_or d (i ∷ is) = i

unfoldable pub first_run : List Run → Run
first_run [] = record { first = 0; kind = middle; bytes = [] }
first_run (r ∷ rs) = r

-- The rack at the start: a place for each run, all empty.
unfoldable pub empties : List Run → List Segment
empties [] = []
empties (r ∷ rs) = pending r ∷ empties rs

unfoldable pub start : Setting → List Segment
start s = empties (runs_from (last_kind s.work) 0 s.pieces)

-- the output that a run is lent: checking takes none
unfoldable pub room_of : Work → ℕ → ℕ
room_of (sealing t iv message) room = room
room_of (checking t sealed) room = 0

-- ---- what the calls do

module _ (m : Calls) where
  -- what the call of a run comes to
  unfoldable pub outcome_of_run : List ℕ → Work → Run → ℕ → Outcome RunRecord
  outcome_of_run key (sealing t iv message) r room = m.seals_run key iv r.first r.kind r.bytes room
  outcome_of_run key (checking t sealed) r room = outcome_by (m.checks_run key (iv_part sealed) r.first r.bytes) [] 0

  -- the run of segment i, as a call
  unfoldable pub run_outcome : Setting → List Segment → ℕ → ℕ → Outcome RunRecord
  run_outcome s xs i room = outcome_of_run s.key s.work (first_run (runs_in (segment xs i))) room

  -- what a call answers
  unfoldable pub answer_of : Setting → List Segment → Call → Answer RunRecord
  answer_of s xs (run_at i room) = (run_outcome s xs i room).answer
  answer_of s xs (join_pair i j) = m.joins_two (record_in (segment xs i)) (record_in (segment xs j))
  answer_of s xs (join_many is) = m.joins_list (records_at xs is)

  -- the rack as a call leaves it
  unfoldable pub after : Setting → List Segment → Call → List Segment
  after s xs (run_at i room) = record_by (answer_of s xs (run_at i room)) (run_outcome s xs i room) xs i
  after s xs (join_pair i j) = merge_by (answer_of s xs (join_pair i j)) xs i 2
  after s xs (join_many is) = merge_by (answer_of s xs (join_many is)) xs (head_or 0 is) (length is)

  -- the rack as a list of calls leaves it
  unfoldable pub after_all : Setting → List Segment → List Call → List Segment
  after_all s xs [] = xs
  after_all s xs (call ∷ calls) = after_all s (after s xs call) calls

  -- P holds of every call of a list, at the rack that the call finds
  unfoldable pub EachCall : Setting → (List Segment → Call → Type 0) → List Segment → List Call → Type 0
  EachCall s P xs [] = Unit {0}
  EachCall s P xs (call ∷ calls) = P xs call × EachCall s P (after s xs call) calls
