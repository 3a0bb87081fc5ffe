-- THE DEMANDS, as types, on one page. A reader who believes Mode, Table, Calls and Parallel reads this one. `c` is any cipher in two halves,
-- `t` any finish, and `m` any set of calls. proofs/Demands.antt has the proof of each for AES, with keys of 16 and 32 bytes, both finishes, and our calls; proofs/Refuted.antt has wrong calls, of
-- which demand 3 does not hold.
-- All is said of the outcome functions of Calls: the contract of each call says that its answer and its whole lent output are what its
-- outcome function gives. What lay in the output before is no argument of an outcome function, so it shows in nothing.
use Rattle.std.specs.Prelude.{◌≡◌, ◌⊎◌, ◌↔◌, List, [], ◌∷◌, ◌++◌, map, Bool, true, false, cond, ℕ, suc, ◌+◌, ◌*◌, ◌-◌, ◌/◌, ◌%◌, ◌≤◌, ◌<◌, length, get_or, take, drop, ℤ, pos, negsuc, neg_ℤ, nat_abs, ◌+ℤ◌, eqb}
use Rattle.blocks.specs.Bytes.{Bytes, Block, zeros, xor_bytes, same}
use Rattle.blocks.specs.declared.words.Words.{Words}
use Rattle.blocks.specs.Words.{Proper, bytes_of, words_of}
use Rattle.gf128.specs.Gf128.{jump, over_x, jump_by}
use Rattle.gf128.specs.Order.{Distinct}
use Rattle.fips197.specs.KeyExpansion.{round_keys}
use Rattle.fips197.specs.Aes.{KeyLength, Key}
use Rattle.fips197.specs.Cipher.{cipher, inv_cipher, after_round}
use Rattle.fips180.specs.Sha1.{sha1}
use Rattle.mode.specs.Mode.{Cipher, Source, plaintext, ciphertext, Pass, Form, RunRecord, in_words, ByteRecord, in_bytes, blocks_of, padded, zero_block, key_block, start_mask, encrypt, pass, Finish, overhead, LawfulFinish, by_cipher, by_sha1, unbroken, unbroken_tag, record_of, iv_part, cipher_part, tag_part, sealed_record, UnbrokenCheck}
use Rattle.mode.specs.Table.{Answer, refused, given, decide, table_order, open_order, in_order, NoneHolds, Decides, apart, not_sealed, not_whole, zero_mask, limit, longest_message, longest_message_within, longest_sealed_within, any_beyond_within}
use Rattle.mode.specs.Calls.{Outcome, answer_bytes, outcome_by, Kind, blocks_of_run, unaligned_run, seal, seal_within, seal_rows, open_sealed, open_within, open_rows, unpadded, or_empty, plaintext_of, pass_from, run_record, seal_run, seal_run_within, seal_run_rows, check_run, check_run_within, check_run_rows, join_two, join_two_within, join_two_rows, join_list, join_list_within, join_list_rows, joined_all, closing_tag, close, close_within, close_rows, test, test_within, test_rows, jump_mask, jump_mask_within, jump_rows, sha1_rows, sha1_text, Calls, calls_of}
use Rattle.mode.specs.OpenBefore.{open_before}
use Rattle.mode.specs.Parallel.{Work, sealing, checking, source_of, finish_of, iv_of, all_blocks, Setting, WellFormed, Run, Segment, recorded, record_in, bytes_in, is_recorded, blocks_in, segment, Call, run_at, join_pair, join_many, consecutive, records_at, Allowed, start, room_of, run_outcome, answer_of, after_all, EachCall}

-- ---- THE CIPHER is FIPS 197's: AES-128 under a key of 16 bytes, AES-256 under one of 32

-- under this key, of nk words, FIPS 197's cipher of nr rounds, of which h make the first half
pub record IsAes (c : Cipher) (key : List ℕ) (nk nr h : ℕ) : Type 0 where
  -- steps 1 and 3 encrypt by FIPS 197's Cipher; in step 2 the halves, one after the other, are that Cipher
  pub encrypts : (block : List ℕ) → encrypt c key block ≡ cipher nr (round_keys nk nr key) block
  pub halves : (block : List ℕ) → c.second_half key (c.first_half key block) ≡ cipher nr (round_keys nk nr key) block
  -- the halves backwards, one after the other, are InvCipher
  pub decrypts : (block : List ℕ) → c.first_half_back key (c.second_half_back key block) ≡ inv_cipher nr (round_keys nk nr key) block
  -- the middletext is the state after round h
  pub middle : (block : List ℕ) → c.first_half key block ≡ after_round (round_keys nk nr key) block h

pub record Aes128And256 (c : Cipher) : Type 0 where
  pub of_16 : (key : List ℕ) → length key ≡ 16 → IsAes c key 4 10 5
  pub of_32 : (key : List ℕ) → length key ≡ 32 → IsAes c key 8 14 7

-- ---- THE KEY IN STEP 1 (ticket P8): a key of 16 bytes is added and replaces a zero sum as it is, and one of 32 bytes does so by its first 16

-- step 1 with `added` where document 01 adds the key to a block or uses it as a mask
abbrev pub start_mask_by : Cipher → List ℕ → List ℕ → List ℕ → List ℕ
start_mask_by c key added iv =
    let sum = xor_bytes (encrypt c key (xor_bytes iv added)) added in
    cond (same sum zero_block) added sum

pub record KeyInStepOne (c : Cipher) : Type 0 where
  pub of_16 : (key iv : List ℕ) → length key ≡ 16 → start_mask c key iv ≡ start_mask_by c key key iv
  pub of_32 : (a b iv : List ℕ) → length a ≡ 16 → length b ≡ 16 → start_mask c (a ++ b) iv ≡ start_mask_by c (a ++ b) a iv

-- ---- THE FINISHES (step 3; ticket P4): 16 bytes by the cipher, or 20 by SHA-1 of the whole key, the pre-authenticator and the mask after the
-- last block, in that order

pub record TwoFinishes (c : Cipher) : Type 0 where
  pub by-cipher : (key a mask : List ℕ) → by_cipher.tag_from c key a mask ≡ xor_bytes (encrypt c key (xor_bytes a mask)) a
  pub by-sha1 : (key a mask : List ℕ) → by_sha1.tag_from c key a mask ≡ sha1 (key ++ a ++ mask)
  pub cipher-long : (by_cipher.tag_length ≡ 16) × LawfulFinish by_cipher c
  pub sha1-long : (by_sha1.tag_length ≡ 20) × LawfulFinish by_sha1 c

-- ---- what a call that writes comes to: every field of its outcome

-- it gives `a`: the answer bytes, as many as reported, and zeros beyond them
pub record Gives {A : Type 0} (o : Outcome A) (a : A) (bytes : List ℕ) (room : ℕ) : Type 0 where
  pub answers : o.answer ≡ given a
  pub reports : o.reported ≡ length bytes
  pub writes : o.output ≡ bytes ++ zeros (room - length bytes)

-- it refuses: no answer bytes are reported, and the output is zero from end to end
pub record Refuses {A : Type 0} (o : Outcome A) (n room : ℕ) : Type 0 where
  pub answers : o.answer ≡ refused n
  pub reports : o.reported ≡ 0
  pub writes : o.output ≡ zeros room

-- ---- DEMAND 1. Whatever is handed in, a call gives its answer or one of the ten numbers; with a number, a lent output is zero.

abbrev pub InTable : ℕ → Type 0
InTable n = (1 ≤ n) × (n ≤ 10)

abbrev pub Answered : {A : Type 0} → Answer A → Type 0
Answered {A} a = ((x : A) × (a ≡ given x)) ⊎ ((n : ℕ) × (InTable n × (a ≡ refused n)))

abbrev pub AnsweredInto : {A : Type 0} → Outcome A → ℕ → Type 0
AnsweredInto {A} o room = ((x : A) × (bytes : List ℕ) × Gives o x bytes room) ⊎ ((n : ℕ) × (InTable n × Refuses o n room))

pub record Demand1 (c : Cipher) : Type 0 where
  pub of_seal : (t : Finish) (key iv message : List ℕ) (room : ℕ) → AnsweredInto (seal t c key iv message room) room
  pub of_open : (t : Finish) (key sealed : List ℕ) (room : ℕ) → AnsweredInto (open_sealed t c key sealed room) room
  pub of_seal_run : (key iv : List ℕ) (first : ℕ) (kind : Kind) (bytes : List ℕ) (room : ℕ) → AnsweredInto (seal_run in_words c key iv first kind bytes room) room
  pub of_check_run : (key iv : List ℕ) (first : ℕ) (bytes : List ℕ) → Answered (check_run in_words c key iv first bytes)
  pub of_join : (l r : RunRecord) → Answered (join_two in_words l r)
  pub of_join_list : (rs : List RunRecord) → Answered (join_list in_words rs)
  pub of_close : (t : Finish) (key iv : List ℕ) (r : RunRecord) → Answered (close in_words t c key iv r)
  pub of_test : (t : Finish) (key iv : List ℕ) (r : RunRecord) (tag : List ℕ) → Answered (test in_words t c key iv r tag)
  pub of_jump : (mask : List ℕ) (distance : ℤ) (room : ℕ) → AnsweredInto (jump_mask mask distance room) room
  pub of_sha1 : (text : List ℕ) (room : ℕ) → AnsweredInto (sha1_text text room) room

-- ---- WHAT DEMANDS 2 AND 3 LEAVE OUT (ticket P3): a key and an IV whose start mask is still zero after its replacement. This is asked where
-- something is to be given: to seal (2 a), to compare opening with the unbroken check (2 d), and of the rack (3). What the calls do with
-- such a pair is `ZeroMask` and `ZeroMaskRack`, below.

abbrev pub NonzeroMask : Cipher → List ℕ → List ℕ → Type 0
NonzeroMask c key iv = zero_mask c key iv ≡ false

-- ---- DEMAND 2 (a). Sealing gives the record of the published mode, 16 j + 32 bytes for j blocks, or 16 j + 36 with the hash finish, and zeros
-- beyond it; a message within the limit, with a key of 16 or 32 bytes, an IV of 16, a start mask that is not zero and with room, is sealed.

pub record Demand2a (t : Finish) (c : Cipher) : Type 0 where
  pub gives : (key iv message r : List ℕ) (room : ℕ) → (seal t c key iv message room).answer ≡ given r
      → (r ≡ sealed_record t c key iv message) × Gives (seal t c key iv message room) r r room
  pub seals : (key iv message : List ℕ) (room : ℕ) → NonzeroMask c key iv → KeyLength key → length iv ≡ 16 → length message ≤ longest_message
      → length (sealed_record t c key iv message) ≤ room → Gives (seal t c key iv message room) (sealed_record t c key iv message) (sealed_record t c key iv message) room
  pub long : (key iv message : List ℕ) → KeyLength key → length iv ≡ 16
      → length (sealed_record t c key iv message) ≡ 16 * (length message / 16 + 1) + overhead t

-- ---- DEMAND 2 (b). Opening gives the message m, its length, and m followed by zeros, exactly where m was sealed to that very record and the
-- output is as long as m, or longer (ticket P6). Where m was sealed to it and less was lent it gives 5, and 5 nowhere else.

-- sealing the message m under some IV, with room for this record, is not refused and gives this very record
pub record SealedFrom (t : Finish) (c : Cipher) (key sealed m : List ℕ) : Type 0 where
  pub iv : List ℕ
  pub iv-block : Block iv
  pub m_bytes : Bytes m
  pub seals : (seal t c key iv m (length sealed)).answer ≡ given sealed

pub record Demand2b (t : Finish) (c : Cipher) : Type 0 where
  pub only_sealed : (key sealed m : List ℕ) (room : ℕ) → Key key → Bytes sealed → (open_sealed t c key sealed room).answer ≡ given m
      → SealedFrom t c key sealed m × (length m ≤ room) × Gives (open_sealed t c key sealed room) m m room
  pub all_sealed : (key sealed m : List ℕ) (room : ℕ) → Key key → SealedFrom t c key sealed m → length m ≤ room
      → Gives (open_sealed t c key sealed room) m m room
  pub no_room : (key sealed m : List ℕ) (room : ℕ) → Key key → SealedFrom t c key sealed m → room < length m
      → Refuses (open_sealed t c key sealed room) 5 room
  pub only_no_room : (key sealed : List ℕ) (room : ℕ) → Key key → Bytes sealed → (open_sealed t c key sealed room).answer ≡ refused 5
      → (m : List ℕ) × (SealedFrom t c key sealed m × (room < length m))

-- ---- DEMAND 2 (c). The refusals are the table's: the rows of each call stand in its order, those of opening in ticket P6's; a number is returned
-- exactly where its row holds and none above it does, and the answer is given exactly where none holds. Beside each call's rows stands what it
-- then gives, by the formulas.

pub record Decided {A : Type 0} (order : List ℕ) (rows : List (ℕ × Bool)) (answer : Answer A) (a : A) : Type 0 where
  pub in-order : in_order order rows ≡ true
  pub refuses : (n : ℕ) → (answer ≡ refused n) ↔ Decides rows n
  pub gives : (x : A) → (answer ≡ given x) ↔ (NoneHolds rows × (a ≡ x))

-- the same of a call that writes
pub record DecidedInto {A : Type 0} (order : List ℕ) (rows : List (ℕ × Bool)) (o : Outcome A) (a : A) (bytes : List ℕ) (room : ℕ) : Type 0 where
  pub decided : Decided order rows o.answer a
  pub none_holds : NoneHolds rows → Gives o a bytes room
  pub one_holds : (n : ℕ) → Decides rows n → Refuses o n room

module _ (c : Cipher) where
  -- Over the formulas of Mode, not by the helpers that the outcome functions are written with: a run's first mask, and closing's mask
  abbrev pub first_mask : List ℕ → List ℕ → ℕ → List ℕ
  first_mask key iv first = jump first (start_mask c key iv)

  abbrev pub closing_mask : List ℕ → List ℕ → RunRecord → List ℕ
  closing_mask key iv r = jump r.count (start_mask c key iv)

  -- step 2 over a run that starts at block `first`
  abbrev pub step_two : Source → List ℕ → List ℕ → ℕ → List (List ℕ) → Pass
  step_two s key iv first blocks = pass c s key blocks (first_mask key iv first) zero_block

  abbrev pub step_two_record : Source → List ℕ → List ℕ → ℕ → List (List ℕ) → RunRecord
  step_two_record s key iv first blocks =
      record { first = first; count = length blocks; preauthenticator = words_of (step_two s key iv first blocks).preauthenticator }

  pub record Demand2c : Type 0 where
    pub of_seal : (t : Finish) (key iv message : List ℕ) (room : ℕ)
        → DecidedInto table_order (seal_rows t c key iv message room) (seal t c key iv message room) (sealed_record t c key iv message) (sealed_record t c key iv message) room
    pub of_open : (t : Finish) (key sealed : List ℕ) (room : ℕ)
        → DecidedInto open_order (open_rows t c key sealed room) (open_sealed t c key sealed room) (or_empty (unpadded (plaintext_of t c key sealed))) (or_empty (unpadded (plaintext_of t c key sealed))) room
    pub of_seal_run : (key iv : List ℕ) (first : ℕ) (kind : Kind) (bytes : List ℕ) (room : ℕ)
        → DecidedInto table_order (seal_run_rows c key iv first kind bytes room) (seal_run in_words c key iv first kind bytes room)
        (step_two_record plaintext key iv first (blocks_of_run kind bytes)) (step_two plaintext key iv first (blocks_of_run kind bytes)).output room
    pub of_check_run : (key iv : List ℕ) (first : ℕ) (bytes : List ℕ)
        → Decided table_order (check_run_rows c key iv first bytes) (check_run in_words c key iv first bytes) (step_two_record ciphertext key iv first (blocks_of bytes))
    pub of_join : (l r : RunRecord)
        → Decided table_order (join_two_rows in_words l r) (join_two in_words l r)
        (record {
          first = l.first;
          count = l.count + r.count;
          preauthenticator = words_of (xor_bytes (jump r.count (bytes_of l.preauthenticator)) (bytes_of r.preauthenticator));
        })
    pub of_join_list : (rs : List RunRecord) → Decided table_order (join_list_rows in_words rs) (join_list in_words rs) (joined_all in_words rs)
    pub of_close : (t : Finish) (key iv : List ℕ) (r : RunRecord)
        → Decided table_order (close_rows in_words c key iv r) (close in_words t c key iv r) (t.tag_from c key (bytes_of r.preauthenticator) (closing_mask key iv r))
    pub of_test : (t : Finish) (key iv : List ℕ) (r : RunRecord) (tag : List ℕ) → Decided table_order (test_rows in_words t c key iv r tag) (test in_words t c key iv r tag) tt
    pub of_jump : (mask : List ℕ) (distance : ℤ) (room : ℕ)
        → DecidedInto table_order (jump_rows mask distance room) (jump_mask mask distance room) (jump_by distance mask) (jump_by distance mask) room
    pub of_sha1 : (text : List ℕ) (room : ℕ) → DecidedInto table_order (sha1_rows text room) (sha1_text text room) (sha1 text) (sha1 text) room

-- ---- DEMAND 2 (d). Where the start mask is not zero, the unbroken check passes a record exactly where opening, lent as much output as there is
-- ciphertext, gives a message or 7; and whatever is lent, exactly where opening gives a message, 7 or 5 (ticket P6).

abbrev pub GivesSome : Outcome (List ℕ) → Type 0
GivesSome o = (m : List ℕ) × (o.answer ≡ given m)

pub record Demand2d (t : Finish) (c : Cipher) : Type 0 where
  pub lent_enough : (key sealed : List ℕ) (room : ℕ) → NonzeroMask c key (iv_part sealed) → KeyLength key → not_sealed t sealed ≡ false
      → length (cipher_part t sealed) ≤ room
      → UnbrokenCheck t c key sealed ↔ (GivesSome (open_sealed t c key sealed room) ⊎ ((open_sealed t c key sealed room).answer ≡ refused 7))
  pub lent_any : (key sealed : List ℕ) (room : ℕ) → NonzeroMask c key (iv_part sealed) → KeyLength key → not_sealed t sealed ≡ false
      → UnbrokenCheck t c key sealed
      ↔ (GivesSome (open_sealed t c key sealed room) ⊎ ((open_sealed t c key sealed room).answer ≡ refused 7) ⊎ ((open_sealed t c key sealed room).answer ≡ refused 5))

-- ---- DEMAND 3. First what the formulas give.

module _ (c : Cipher) (s : Setting) where
  -- the pass over all blocks, nothing cut
  unfoldable pub whole : Pass
  whole = unbroken c (source_of s.work) s.key (iv_of s.work) (all_blocks s.work)

  unfoldable pub whole_tag : List ℕ
  whole_tag = unbroken_tag (finish_of s.work) c (source_of s.work) s.key (iv_of s.work) (all_blocks s.work)

  -- the formulas' record of the blocks of k segments from segment i
  unfoldable pub record_of_segments : List Segment → ℕ → ℕ → RunRecord
  record_of_segments xs i k =
      record_of c (source_of s.work) s.key (iv_of s.work) (blocks_in (take i xs)) (blocks_in (take k (drop i xs)))

  -- the part of the unbroken ciphertext (of which checking writes nothing) that has the blocks of segment i
  unfoldable pub ciphertext_of_segment : List Segment → ℕ → List ℕ
  ciphertext_of_segment xs i =
      take (16 * length (blocks_in (take 1 (drop i xs)))) (drop (16 * length (blocks_in (take i xs))) whole.output)

module _ (c : Cipher) (m : Calls) where
  -- What a run is expected to give: with room, the record of its blocks, and their ciphertext, then zeros; with too little room 5, and
  -- all zeros.
  pub record ExpectedOfRun (s : Setting) (xs : List Segment) (i room : ℕ) : Type 0 where
    pub with_room : length (ciphertext_of_segment c s xs i) ≤ room_of s.work room
        → Gives (run_outcome m s xs i room) (record_of_segments c s xs i 1) (ciphertext_of_segment c s xs i) (room_of s.work room)
    pub too_short : room_of s.work room < length (ciphertext_of_segment c s xs i) → Refuses (run_outcome m s xs i room) 5 (room_of s.work room)

  -- What a join of the records at these places is expected to give: neighbours the record of all their blocks, the empty list 9, any other
  -- choice 8.
  pub record ExpectedOfJoin (s : Setting) (xs : List Segment) (is : List ℕ) (answer : Answer RunRecord) : Type 0 where
    pub neighbours : (i k : ℕ) → is ≡ consecutive i (suc k) → answer ≡ given (record_of_segments c s xs i (suc k))
    pub empty : is ≡ [] → answer ≡ refused 9
    pub others : apart in_words (records_at xs is) ≡ true → answer ≡ refused 8

  unfoldable pub Expected : Setting → List Segment → Call → Type 0
  Expected s xs (run_at i room) = ExpectedOfRun s xs i room
  Expected s xs (join_pair i j) = ExpectedOfJoin s xs (i ∷ j ∷ []) (answer_of m s xs (join_pair i j))
  Expected s xs (join_many is) = ExpectedOfJoin s xs is (answer_of m s xs (join_many is))

  -- Testing the single record: a tag of the finish's length passes exactly when it is the unbroken one; of a sealed record that is checked, the
  -- tag passes exactly when the unbroken check passes it.
  unfoldable pub TestedAs : List ℕ → Work → RunRecord → Type 0
  TestedAs key (sealing t iv message) r =
      (tag : List ℕ) → length tag ≡ t.tag_length → (m.tests t key iv r tag ≡ given tt) ↔ (unbroken_tag t c plaintext key iv (blocks_of (padded message)) ≡ tag)
  TestedAs key (checking t sealed) r = (m.tests t key (iv_part sealed) r (tag_part t sealed) ≡ given tt) ↔ UnbrokenCheck t c key sealed

  -- The single record that has all blocks, and the ciphertext written on the way, are the unbroken ones.
  pub record Whole (s : Setting) (r : RunRecord) (bytes : List ℕ) : Type 0 where
    pub ciphertext_whole : bytes ≡ (whole c s).output
    pub closes_whole : m.closes (finish_of s.work) s.key (iv_of s.work) r ≡ given (whole_tag c s)
    pub tests-whole : TestedAs s.key s.work r

  -- Demand 3's conclusion, of a setting and a list of calls, which lead from the empty rack to the rack `xs`.
  pub record Agrees (s : Setting) (calls : List Call) (xs : List Segment) : Type 0 where
    -- every call was answered as document 01 says
    pub answers : EachCall m s (Expected s) (start s) calls
    -- the places' blocks, in rack order, are all blocks
    pub blocks_are : blocks_in xs ≡ all_blocks s.work
    -- every record in the rack is the formulas' record of its place's blocks
    pub records : (i : ℕ) → is_recorded (segment xs i) ≡ true → record_in (segment xs i) ≡ record_of_segments c s xs i 1
    -- every ciphertext written is its part of the unbroken one
    pub ciphertexts : (i : ℕ) → is_recorded (segment xs i) ≡ true → bytes_in (segment xs i) ≡ ciphertext_of_segment c s xs i
    -- once the rack is a single filled place: the ciphertexts in order, the closing tag and the test are the unbroken ones
    pub single : (rs : List Run) (r : RunRecord) (bytes : List ℕ) → xs ≡ recorded rs r bytes ∷ [] → Whole s r bytes

  -- DEMAND 3, of any six calls: for every key, finish, message or sealed record, and cut (s) whose start mask is not zero, and every list of calls that
  -- is allowed, from the empty rack.
  abbrev pub Demand3 : Type 0
  Demand3 =
      (s : Setting) → NonzeroMask c s.key (iv_of s.work) → WellFormed s → (calls : List Call) → EachCall m s Allowed (start s) calls → Agrees s calls (after_all m s (start s) calls)

-- ---- beside demand 2

-- what sealing gave is opened again, by whoever lends as much output as there is message
abbrev pub OpensSealed : Finish → Cipher → Type 0
OpensSealed t c =
    (key iv message r : List ℕ) (room lent : ℕ) → Key key → Block iv → Bytes message → (seal t c key iv message room).answer ≡ given r
    → length message ≤ lent → Gives (open_sealed t c key r lent) message message lent

-- THE OLD SIZE (ticket P6): where as much is lent as there is ciphertext, every answer, every length and every output of opening is the old one
abbrev pub OldSize : Finish → Cipher → Type 0
OldSize t c = (key sealed : List ℕ) (room : ℕ) → length (cipher_part t sealed) ≤ room → open_sealed t c key sealed room ≡ open_before t c key sealed room

-- ---- beside demand 2: THE LIMIT (ticket P7). A machine whose limit is n blocks, as it was 4,000 before, comes in each call to what a machine of today
-- comes to, in every field, unless what it is handed goes beyond n blocks and is refused for that. SHA-1 knows no limit of blocks.

-- the same answer; or, of what is longer, the refusal with the number k
abbrev pub SameOr : {A : Type 0} → Type 0 → ℕ → Answer A → Answer A → Type 0
SameOr longer k a b = (a ≡ b) ⊎ (longer × (a ≡ refused k))

abbrev pub SameOrInto : {A : Type 0} → Type 0 → ℕ → ℕ → Outcome A → Outcome A → Type 0
SameOrInto longer k room o p = (o ≡ p) ⊎ (longer × Refuses o k room)

pub record LowerLimit (c : Cipher) (n : ℕ) : Type 0 where
  pub of_seal : (t : Finish) (key iv message : List ℕ) (room : ℕ)
      → SameOrInto (longest_message_within n < length message) 3 room (seal_within t c n key iv message room) (seal t c key iv message room)
  pub of_open : (t : Finish) (key sealed : List ℕ) (room : ℕ)
      → SameOrInto (longest_sealed_within n t < length sealed) 3 room (open_within t c n key sealed room) (open_sealed t c key sealed room)
  pub of_seal_run : (key iv : List ℕ) (first : ℕ) (kind : Kind) (bytes : List ℕ) (room : ℕ)
      → SameOrInto (n < first + length (blocks_of_run kind bytes)) 4 room (seal_run_within in_words c n key iv first kind bytes room) (seal_run in_words c key iv first kind bytes room)
  pub of_check_run : (key iv : List ℕ) (first : ℕ) (bytes : List ℕ)
      → SameOr (n < first + length (blocks_of bytes)) 4 (check_run_within in_words c n key iv first bytes) (check_run in_words c key iv first bytes)
  pub of_join : (l r : RunRecord) → SameOr (any_beyond_within n in_words (l ∷ r ∷ []) ≡ true) 4 (join_two_within in_words n l r) (join_two in_words l r)
  pub of_join_list : (rs : List RunRecord) → SameOr (any_beyond_within n in_words rs ≡ true) 4 (join_list_within in_words n rs) (join_list in_words rs)
  pub of_close : (t : Finish) (key iv : List ℕ) (r : RunRecord) → SameOr (n < r.first + r.count) 4 (close_within in_words t c n key iv r) (close in_words t c key iv r)
  pub of_test : (t : Finish) (key iv : List ℕ) (r : RunRecord) (tag : List ℕ)
      → SameOr (n < r.first + r.count) 4 (test_within in_words t c n key iv r tag) (test in_words t c key iv r tag)
  pub of_jump : (mask : List ℕ) (distance : ℤ) (room : ℕ)
      → SameOrInto (n < nat_abs distance) 4 room (jump_mask_within n mask distance room) (jump_mask mask distance room)
  -- and a longer list does get 3, to be opened or to be sealed, whatever is lent
  pub longer_record : (t : Finish) (key sealed : List ℕ) (room : ℕ) → KeyLength key → longest_sealed_within n t < length sealed
      → Refuses (open_within t c n key sealed room) 3 room
  pub longer_message : (t : Finish) (key iv message : List ℕ) (room : ℕ) → KeyLength key → length iv ≡ 16 → longest_message_within n < length message
      → Refuses (seal_within t c n key iv message room) 3 room

-- of every limit up to today's
abbrev pub LowerLimits : Cipher → Type 0
LowerLimits c = (n : ℕ) → n ≤ limit → LowerLimit c n

-- ---- beside demand 2: RECORDS IN WORDS (ticket P12)

-- each byte form has one word form, and the reverse
pub record OneForm : Type 0 where
  pub of_bytes : (b : List ℕ) → Block b → Proper (words_of b) × (bytes_of (words_of b) ≡ b)
  pub of_words : (w : Words) → Proper w → Block (bytes_of w) × (words_of (bytes_of w) ≡ w)

-- a record that its form can hold: its pre-authenticator is a block, and its parts make it again
pub record Formed (f : Form) (r : f.Record) : Type 0 where
  pub is_block : Block (f.preauthenticator r)
  pub is_made : f.make (f.first r) (f.count r) (f.preauthenticator r) ≡ r

unfoldable pub EachFormed : (f : Form) → List f.Record → Type 0
EachFormed f [] = Unit {0}
EachFormed f (r ∷ rs) = Formed f r × EachFormed f rs

-- a record of one form in another; and what is given, where there is no refusal
abbrev pub in_form : (f g : Form) → f.Record → g.Record
in_form f g r = g.make (f.first r) (f.count r) (f.preauthenticator r)

unfoldable pub map_answer : {A B : Type 0} → (A → B) → Answer A → Answer B
map_answer t (refused n) = refused n
map_answer t (given a) = given (t a)

abbrev pub map_outcome : {A B : Type 0} → (A → B) → Outcome A → Outcome B
map_outcome t o = record { answer = map_answer t o.answer; reported = o.reported; output = o.output }

-- Every call answers in the form g what it answers in the form f: the same record, in that form; the same tag, length, output and refusal.
pub record SameIn (c : Cipher) (f g : Form) : Type 0 where
  pub of_seal_run : (key iv : List ℕ) (first : ℕ) (kind : Kind) (bytes : List ℕ) (room : ℕ) → Bytes key → Bytes iv → Bytes bytes
      → seal_run g c key iv first kind bytes room ≡ map_outcome (in_form f g) (seal_run f c key iv first kind bytes room)
  pub of_check_run : (key iv : List ℕ) (first : ℕ) (bytes : List ℕ) → Bytes key → Bytes iv → Bytes bytes
      → check_run g c key iv first bytes ≡ map_answer (in_form f g) (check_run f c key iv first bytes)
  pub of_join : (l r : f.Record) → Formed f l → Formed f r → join_two g (in_form f g l) (in_form f g r) ≡ map_answer (in_form f g) (join_two f l r)
  pub of_join_list : (rs : List f.Record) → EachFormed f rs → join_list g (map (in_form f g) rs) ≡ map_answer (in_form f g) (join_list f rs)
  pub of_close : (t : Finish) (key iv : List ℕ) (r : f.Record) → Formed f r → close g t c key iv (in_form f g r) ≡ close f t c key iv r
  pub of_test : (t : Finish) (key iv : List ℕ) (r : f.Record) (tag : List ℕ) → Formed f r → test g t c key iv (in_form f g r) tag ≡ test f t c key iv r tag

-- The records in words are those in bytes, and the reverse. Every record whose words have 64 bits, and every one in bytes whose
-- pre-authenticator is a block, is one that its form can hold.
pub record WordsAsBytes (c : Cipher) : Type 0 where
  pub one_form : OneForm
  pub in-words : SameIn c in_bytes in_words
  pub in-bytes : SameIn c in_words in_bytes
  pub words_formed : (r : RunRecord) → Proper r.preauthenticator → Formed in_words r
  pub bytes_formed : (r : ByteRecord) → Block r.preauthenticator → Formed in_bytes r

-- ---- beside demand 2: A ZERO START MASK (ticket P3)

-- the zero block through the cipher run backwards
abbrev pub zero_mask_iv : Cipher → List ℕ → List ℕ
zero_mask_iv c key = c.first_half_back key (c.second_half_back key zero_block)

pub record ZeroMask (c : Cipher) : Type 0 where
  -- the start mask is still zero exactly where the key's first 16 bytes are zero and the encryption of the IV under the whole key is zero
  pub exactly : (key iv : List ℕ) → KeyLength key → length iv ≡ 16
      → (zero_mask c key iv ≡ true) ↔ ((key_block key ≡ zero_block) × (encrypt c key iv ≡ zero_block))
  -- under each such key there is such an IV, and no other
  pub one-iv : (key : List ℕ) → Key key → key_block key ≡ zero_block → Block (zero_mask_iv c key) × (zero_mask c key (zero_mask_iv c key) ≡ true)
  pub no_other : (key iv : List ℕ) → Key key → Block iv → zero_mask c key iv ≡ true → iv ≡ zero_mask_iv c key
  -- every call that has a key and an IV refuses such a pair with 10, an empty run too, where no row above 10 holds; whatever is lent, and
  -- whatever the tag
  pub of_seal : (t : Finish) (key iv message : List ℕ) (room : ℕ) → zero_mask c key iv ≡ true → KeyLength key → length iv ≡ 16 → length message ≤ longest_message
      → Refuses (seal t c key iv message room) 10 room
  pub of_open : (t : Finish) (key sealed : List ℕ) (room : ℕ) → zero_mask c key (iv_part sealed) ≡ true → KeyLength key → not_sealed t sealed ≡ false
      → Refuses (open_sealed t c key sealed room) 10 room
  pub of_seal_run : (key iv : List ℕ) (first : ℕ) (kind : Kind) (bytes : List ℕ) (room : ℕ) → zero_mask c key iv ≡ true → KeyLength key → length iv ≡ 16
      → unaligned_run kind bytes ≡ false → first + length (blocks_of_run kind bytes) ≤ limit → Refuses (seal_run in_words c key iv first kind bytes room) 10 room
  pub of_check_run : (key iv : List ℕ) (first : ℕ) (bytes : List ℕ) → zero_mask c key iv ≡ true → KeyLength key → length iv ≡ 16 → length bytes % 16 ≡ 0
      → first + length (blocks_of bytes) ≤ limit → check_run in_words c key iv first bytes ≡ refused 10
  pub of_close : (t : Finish) (key iv : List ℕ) (r : RunRecord) → zero_mask c key iv ≡ true → KeyLength key → length iv ≡ 16 → r.first + r.count ≤ limit → not_whole in_words r ≡ false
      → close in_words t c key iv r ≡ refused 10
  pub of_test : (t : Finish) (key iv : List ℕ) (r : RunRecord) (tag : List ℕ) → zero_mask c key iv ≡ true → KeyLength key → length iv ≡ 16 → length tag ≡ t.tag_length
      → r.first + r.count ≤ limit → not_whole in_words r ≡ false → test in_words t c key iv r tag ≡ refused 10

-- some rows without those of number n
unfoldable pub without : ℕ → List (ℕ × Bool) → List (ℕ × Bool)
without n [] = []
without n (row ∷ rows) = cond (eqb n row.0) (without n rows) (row ∷ without n rows)

-- For every other pair each call's whole outcome is that of its other rows, as if row 10 were not there.
pub record AsBefore (c : Cipher) : Type 0 where
  pub of_seal : (t : Finish) (key iv message : List ℕ) (room : ℕ) → NonzeroMask c key iv
      → seal t c key iv message room ≡ outcome_by (decide (without 10 (seal_rows t c key iv message room)) (sealed_record t c key iv message)) (sealed_record t c key iv message) room
  pub of_open : (t : Finish) (key sealed : List ℕ) (room : ℕ) → NonzeroMask c key (iv_part sealed)
      → let message = or_empty (unpadded (plaintext_of t c key sealed)) in
      open_sealed t c key sealed room ≡ outcome_by (decide (without 10 (open_rows t c key sealed room)) message) message room
  pub of_seal_run : (key iv : List ℕ) (first : ℕ) (kind : Kind) (bytes : List ℕ) (room : ℕ) → NonzeroMask c key iv
      → let blocks = blocks_of_run kind bytes in
      seal_run in_words c key iv first kind bytes room
      ≡ outcome_by (decide (without 10 (seal_run_rows c key iv first kind bytes room)) (run_record in_words c plaintext key iv first blocks)) (pass_from c plaintext key iv first blocks).output room
  pub of_check_run : (key iv : List ℕ) (first : ℕ) (bytes : List ℕ) → NonzeroMask c key iv
      → check_run in_words c key iv first bytes ≡ decide (without 10 (check_run_rows c key iv first bytes)) (run_record in_words c ciphertext key iv first (blocks_of bytes))
  pub of_close : (t : Finish) (key iv : List ℕ) (r : RunRecord) → NonzeroMask c key iv → close in_words t c key iv r ≡ decide (without 10 (close_rows in_words c key iv r)) (closing_tag in_words t c key iv r)
  pub of_test : (t : Finish) (key iv : List ℕ) (r : RunRecord) (tag : List ℕ) → NonzeroMask c key iv → test in_words t c key iv r tag ≡ decide (without 10 (test_rows in_words t c key iv r tag)) tt

-- ---- beside demand 2: THE SIGNED JUMP (ticket P1), of the outcome that the call's contract cites

-- -1,048,576 to 1,048,576
abbrev pub InRange : ℤ → Type 0
InRange distance = nat_abs distance ≤ limit

-- the mask, jumped by the distance, is m, for whoever lends 16 bytes or more
abbrev pub JumpsTo : List ℕ → ℤ → List ℕ → Type 0
JumpsTo mask distance m = (room : ℕ) → 16 ≤ room → Gives (jump_mask mask distance room) m m room

pub record SignedJump (c : Cipher) : Type 0 where
  -- by n blocks it is document 01's jump, n times the variable; by -1 it divides by the variable
  pub forward : (mask : List ℕ) (n : ℕ) → length mask ≡ 16 → n ≤ limit → JumpsTo mask (pos n) (jump n mask)
  pub one_back : (mask : List ℕ) → length mask ≡ 16 → JumpsTo mask (negsuc 0) (over_x mask)
  -- forward then back by the same amount, and back then forward, is the identity
  pub undone : (mask : List ℕ) (d : ℤ) → Block mask → InRange d → (m : List ℕ) × (JumpsTo mask d m × JumpsTo m (neg_ℤ d) mask)
  -- distances in range add where their sum is in range too
  pub adds : (mask : List ℕ) (d e : ℤ) → Block mask → InRange d → InRange e → InRange (d +ℤ e)
      → (m : List ℕ) × (n : List ℕ) × (JumpsTo mask d m × JumpsTo m e n × JumpsTo mask (d +ℤ e) n)
  -- a run's first mask jumped back by its first block, and closing's mask jumped back by the count, are the start mask; and so is the mask
  -- that steps 1 and 2 give after any blocks, nothing cut, jumped back by their number
  pub from_run : (key iv : List ℕ) (first : ℕ) → Key key → Block iv → first ≤ limit
      → JumpsTo (first_mask c key iv first) (neg_ℤ (pos first)) (start_mask c key iv)
  pub from-closing : (key iv : List ℕ) (r : RunRecord) → Key key → Block iv → r.count ≤ limit
      → JumpsTo (closing_mask c key iv r) (neg_ℤ (pos r.count)) (start_mask c key iv)
  pub from-unbroken : (s : Source) (key iv : List ℕ) (before : List (List ℕ)) → Key key → Block iv → length before ≤ limit
      → JumpsTo (unbroken c s key iv before).mask (neg_ℤ (pos (length before))) (start_mask c key iv)

-- ---- beside demand 2: EVERY BLOCK ITS OWN MASK (ticket P11)

-- the mask with which steps 1 and 2 come to block i, nothing cut; where i is the number of the blocks, the one after the last
abbrev pub mask_at : Cipher → Source → List ℕ → List ℕ → List (List ℕ) → ℕ → List ℕ
mask_at c s key iv blocks i = (unbroken c s key iv (take i blocks)).mask

abbrev pub zero_words : Words
zero_words = record { high = 0; low = 0 }

-- With a start mask that is not zero, the masks of all blocks up to the limit and the one after the last are not zero, and no two of them are
-- equal: in sealing and in checking.
pub record DistinctMasks (c : Cipher) : Type 0 where
  pub in-bytes : (s : Source) (key iv : List ℕ) (blocks : List (List ℕ)) → NonzeroMask c key iv → Key key → Block iv → length blocks ≤ limit
      → Distinct zero_block (length blocks) (mask_at c s key iv blocks)
  -- in two words, as the calls hold them
  pub in-words : (s : Source) (key iv : List ℕ) (blocks : List (List ℕ)) → NonzeroMask c key iv → Key key → Block iv → length blocks ≤ limit
      → Distinct zero_words (length blocks) (λ i. words_of (mask_at c s key iv blocks i))
  -- A run comes to each of its blocks, and behind the last, with the mask that is there when nothing is cut; and closing adds the one after the
  -- last of all.
  pub of_run : (s : Source) (key iv : List ℕ) (before these : List (List ℕ)) (i : ℕ) → KeyLength key → length iv ≡ 16 → i ≤ length these
      → (step_two c s key iv (length before) (take i these)).mask ≡ mask_at c s key iv (before ++ these) (length before + i)
  pub of_closing : (s : Source) (key iv : List ℕ) (blocks : List (List ℕ)) (r : RunRecord) → KeyLength key → length iv ≡ 16 → r.count ≡ length blocks
      → closing_mask c key iv r ≡ mask_at c s key iv blocks (length blocks)

-- ---- beside demand 2: EVERY CHANGE FELT (ticket P11). Nothing is said of the tags, which may coincide.

-- as many blocks in both, which differ in block k and in no other
pub record DifferOnlyAt (k : ℕ) (xs ys : List (List ℕ)) : Type 0 where
  pub count : length xs ≡ length ys
  pub there : ¬ (get_or xs k [] ≡ get_or ys k [])
  pub elsewhere : (i : ℕ) → ¬ (i ≡ k) → get_or xs i [] ≡ get_or ys i []

-- Two messages that differ in exactly one padded block, sealed under one key and IV: their ciphertexts differ in that block and in no other, and
-- their pre-authenticators differ. Messages of equal length have as many padded blocks; no more is asked of their lengths.
pub record ChangesShow (t : Finish) (c : Cipher) : Type 0 where
  -- in what the call that seals gives: the IVs are the same, and the ciphertexts differ so
  pub of_seal : (key iv m n r q : List ℕ) (room lent k : ℕ) → Key key → Block iv → Bytes m → Bytes n
      → (seal t c key iv m room).answer ≡ given r → (seal t c key iv n lent).answer ≡ given q → DifferOnlyAt k (blocks_of (padded m)) (blocks_of (padded n))
      → (iv_part r ≡ iv_part q) × DifferOnlyAt k (blocks_of (cipher_part t r)) (blocks_of (cipher_part t q))
  pub preauthenticators : (key iv m n : List ℕ) (k : ℕ) → Key key → Block iv → Bytes m → Bytes n → DifferOnlyAt k (blocks_of (padded m)) (blocks_of (padded n))
      → ¬ ((unbroken c plaintext key iv (blocks_of (padded m))).preauthenticator ≡ (unbroken c plaintext key iv (blocks_of (padded n))).preauthenticator)
  -- the same of a run, whatever block it starts at: in its ciphertext, and in the two words of its record. A whole message is a last run from
  -- block 0.
  pub of_seal_run : (key iv : List ℕ) (first : ℕ) (kind : Kind) (a b : List ℕ) (r q : RunRecord) (room lent k : ℕ) → Key key → Block iv → Bytes a → Bytes b
      → (seal_run in_words c key iv first kind a room).answer ≡ given r → (seal_run in_words c key iv first kind b lent).answer ≡ given q
      → DifferOnlyAt k (blocks_of_run kind a) (blocks_of_run kind b)
      → DifferOnlyAt k (blocks_of (answer_bytes (seal_run in_words c key iv first kind a room))) (blocks_of (answer_bytes (seal_run in_words c key iv first kind b lent)))
      × ¬ (r.preauthenticator ≡ q.preauthenticator)
  -- and of a run of ciphertext that is checked
  pub of_check_run : (key iv : List ℕ) (first : ℕ) (a b : List ℕ) (r q : RunRecord) (k : ℕ) → Key key → Block iv → Bytes a → Bytes b
      → check_run in_words c key iv first a ≡ given r → check_run in_words c key iv first b ≡ given q → DifferOnlyAt k (blocks_of a) (blocks_of b)
      → ¬ (r.preauthenticator ≡ q.preauthenticator)

-- ---- beside demand 3

-- what a run gets under a pair that demand 3 leaves out (a join has no key)
unfoldable pub RunRefused : Cipher → Setting → List Segment → Call → Type 0
RunRefused c s xs (run_at i room) = Refuses (run_outcome (calls_of c) s xs i room) 10 (room_of s.work room)
RunRefused c s xs (join_pair i j) = Unit {0}
RunRefused c s xs (join_many is) = Unit {0}

-- under such a pair every run is refused with 10, and the rack stays empty
abbrev pub ZeroMaskRack : Cipher → Type 0
ZeroMaskRack c =
    (s : Setting) → zero_mask c s.key (iv_of s.work) ≡ true → WellFormed s → (calls : List Call) → EachCall (calls_of c) s Allowed (start s) calls
    → EachCall (calls_of c) s (RunRefused c s) (start s) calls × (after_all (calls_of c) s (start s) calls ≡ start s)

-- a list of calls that is allowed, over some cut, and that leaves a single filled place
pub record Done (c : Cipher) (key : List ℕ) (work : Work) (r : RunRecord) (bytes : List ℕ) : Type 0 where
  pub pieces : List (List ℕ)
  pub formed : WellFormed (record { key = key; work = work; pieces = pieces })
  pub calls : List Call
  pub allowed : EachCall (calls_of c) (record { key = key; work = work; pieces = pieces }) Allowed (start (record { key = key; work = work; pieces = pieces })) calls
  pub runs : List Run
  pub one_left : after_all (calls_of c) (record { key = key; work = work; pieces = pieces }) (start (record { key = key; work = work; pieces = pieces })) calls ≡ recorded runs r bytes ∷ []

-- no way of cutting, ordering and joining makes a difference
abbrev pub NoDifference : Cipher → Type 0
NoDifference c =
    (key : List ℕ) (work : Work) (r q : RunRecord) (bytes text : List ℕ) → Done c key work r bytes → Done c key work q text
    → (bytes ≡ text) × (close in_words (finish_of work) c key (iv_of work) r ≡ close in_words (finish_of work) c key (iv_of work) q)

-- the IV, the runs' ciphertexts and the closing tag are what the call that seals the whole message gives
abbrev pub SealedWhole : Cipher → Type 0
SealedWhole c =
    (t : Finish) (key iv message bytes tag : List ℕ) (r : RunRecord) → Done c key (sealing t iv message) r bytes → close in_words t c key iv r ≡ given tag
    → iv ++ bytes ++ tag ≡ sealed_record t c key iv message

-- checking a run's ciphertext gives the record that sealing it gave
abbrev pub CheckedAsSealed : Cipher → Type 0
CheckedAsSealed c =
    (key iv : List ℕ) → Key key → Block iv → (first : ℕ) (kind : Kind) (bytes : List ℕ) (room : ℕ) → Bytes bytes
    → (r : RunRecord) → (seal_run in_words c key iv first kind bytes room).answer ≡ given r
    → check_run in_words c key iv first (take (seal_run in_words c key iv first kind bytes room).reported (seal_run in_words c key iv first kind bytes room).output) ≡ given r

-- a joined list stays within the limit
abbrev pub ListWithin : Type 0
ListWithin = (rs : List RunRecord) (r : RunRecord) → join_list in_words rs ≡ given r → r.first + r.count ≤ limit
