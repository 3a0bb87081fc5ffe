-- The statement of demand 3 is not loose. First what it forces on any calls in small settings, each conclusion by itself; then wrong calls, of
-- which it does not hold.
use mathlib.Core.Path.{◌≡◌, refl, sym, ap, ◌∙◌}
use mathlib.Core.Logic.{inl, inr, ◌↔◌}
use mathlib.Core.List.{List, [], ◌∷◌}
use mathlib.Core.Bool.{Bool, cond}
use Prim.Native.Nat.{ℕ, ◌+◌, ◌*◌, ◌-◌, ◌%◌}
use native.Mathlib.Omega.{arith}
use lib.ListN.{length, drop, get_or, replicate}
use lib.Dec.{lit<, lit≤, ltb, eqb}
use Rattle.blocks.specs.Bytes.{xor_bytes, same, concat}
use Rattle.blocks.specs.Words.{bytes_of, words_of}
use Rattle.blocks.specs.declared.words.Words.{Words}
use Rattle.gf128.specs.Gf128.{jump}
use Rattle.mode.specs.Mode.{plaintext, ciphertext, RunRecord, in_words, zero_block, key_block, blocks_of, encrypt, start_mask, pass, Finish, by_cipher, UnbrokenCheck}
use Rattle.mode.specs.Table.{Answer, refused, given, decide, not16, any_beyond, apart, none}
use Rattle.mode.specs.Calls.{Kind, middle, last, blocks_of_run, Outcome, answer_bytes, outcome_by, joined, joined_all, blank, join_two, join_two_rows, join_list, join_list_rows, pass_from, run_record, seal_run, seal_run_rows, check_run, check_run_rows, close, close_rows, test, Calls}
use Rattle.mode.specs.Parallel.{Segment, recorded, Call, run_at, join_pair, join_many, Allowed, record_by, start, after_all}
use Rattle.mode.specs.Demands.{start_mask_by, Gives, Refuses, Expected, Whole, Agrees, Demand3}
use Rattle.mode.proofs.Decisions.{outcome_answer}
use Rattle.mode.proofs.Toy.{toy, computed, a_key, an_iv, one_piece, one_piece_formed, zero_key, zero_key_formed, replaced, replaced_formed, long_replaced, long_replaced_formed, one_text, one_checked, one_checked_formed, two_checked, two_checked_formed, three_pieces, three_pieces_formed}

-- two words alike
abbrev each : ℕ → Words
each word = record { high = word; low = word }

-- ---- one run, of the empty message

-- the padding is 80 and zeros; the start mask is 3 in each byte, the middletext 80 + 3 + 1 and then 3 + 1, and the ciphertext (one_text) the
-- middletext + 3
abbrev pub one_record : RunRecord
one_record = record { first = 0; count = 1; preauthenticator = record { high = 0x8202020202020202; low = 0x0202020202020202 } }

-- the mask after the block is 6 in each byte, and the tag the pre-authenticator + 6 + 1, plus the pre-authenticator
abbrev one_tag : List ℕ
one_tag = replicate 16 7

module _ (m : Calls) (d : Demand3 toy m) where
  -- (a run is allowed, whatever the calls answer)
  one : (t : Finish) (room : ℕ) → Agrees toy m (one_piece t) (run_at 0 room ∷ []) (after_all m (one_piece t) (start (one_piece t)) (run_at 0 room ∷ []))
  unfolding computed
  one t room = d (one_piece t) refl (one_piece_formed t) (run_at 0 room ∷ []) ((lit< tt, refl), tt)

  -- with room, sealing gives this record and this ciphertext
  run_forced : Gives (m.seals_run a_key an_iv 0 last [] 16) one_record one_text 16
  unfolding computed
  run_forced = (one by_cipher 16).answers.0.with_room (lit≤ tt)

  -- with a byte too little it gets 5, and writes zeros
  short_forced : Refuses (m.seals_run a_key an_iv 0 last [] 15) 5 15
  unfolding computed
  short_forced = (one by_cipher 15).answers.0.too_short (lit< tt)

  short_zero : (m.seals_run a_key an_iv 0 last [] 15).output ≡ replicate 15 0
  short_zero = short_forced.writes

  short_unreported : (m.seals_run a_key an_iv 0 last [] 15).reported ≡ 0
  short_unreported = short_forced.reports

  one_left : (t : Finish) → after_all m (one_piece t) (start (one_piece t)) (run_at 0 16 ∷ []) ≡ recorded (record { first = 0; kind = last; bytes = [] } ∷ []) one_record one_text ∷ []
  unfolding computed
  one_left t = rw (run_forced.answers, run_forced.reports, run_forced.writes)

  pub one-whole : (t : Finish) → Whole toy m (one_piece t) one_record one_text
  one-whole t = (one t 16).single _ one_record one_text (one_left t)

  -- closing it gives this tag, and no other tag passes
  close_forced : m.closes by_cipher a_key an_iv one_record ≡ given one_tag
  unfolding computed
  close_forced = (one-whole by_cipher).closes_whole

  test_forced : (tag : List ℕ) → length tag ≡ 16 → (m.tests by_cipher a_key an_iv one_record tag ≡ given tt) ↔ (one_tag ≡ tag)
  unfolding computed
  test_forced = (one-whole by_cipher).tests-whole

-- ---- checks, of a ciphertext of two blocks

module _ (m : Calls) (d : Demand3 toy m) where
  -- checking either run gives its record: the start mask is 6 in each byte, and 12 after one block
  check_forced : m.checks_run a_key (replicate 16 7) 0 (replicate 16 7) ≡ given (record { first = 0; count = 1; preauthenticator = each 0x0101010101010101 })
  unfolding computed
  check_forced =
      sym (outcome_answer (m.checks_run a_key (replicate 16 7) 0 (replicate 16 7)) [] 0)
      ∙ ((d two_checked refl two_checked_formed (run_at 0 0 ∷ []) ((lit< tt, refl), tt)).answers.0.with_room (lit≤ tt)).answers

  check_forced_later : m.checks_run a_key (replicate 16 7) 1 (replicate 16 7) ≡ given (record { first = 1; count = 1; preauthenticator = each 0x0b0b0b0b0b0b0b0b })
  unfolding computed
  check_forced_later =
      sym (outcome_answer (m.checks_run a_key (replicate 16 7) 1 (replicate 16 7)) [] 0)
      ∙ ((d two_checked refl two_checked_formed (run_at 1 0 ∷ []) ((lit< tt, refl), tt)).answers.0.with_room (lit≤ tt)).answers

-- ---- tests, of a sealed record that is checked in one run

module _ (m : Calls) (d : Demand3 toy m) (byte : ℕ) where
  checked_one : Agrees toy m (one_checked byte) (run_at 0 0 ∷ []) (after_all m (one_checked byte) (start (one_checked byte)) (run_at 0 0 ∷ []))
  unfolding computed
  checked_one = d (one_checked byte) refl (one_checked_formed byte) (run_at 0 0 ∷ []) ((lit< tt, refl), tt)

  check_forced_whole : m.checks_run a_key an_iv 0 one_text ≡ given one_record
  unfolding computed
  check_forced_whole = sym (outcome_answer (m.checks_run a_key an_iv 0 one_text) [] 0) ∙ (checked_one.answers.0.with_room (lit≤ tt)).answers

  checked_left : after_all m (one_checked byte) (start (one_checked byte)) (run_at 0 0 ∷ []) ≡ recorded (record { first = 0; kind = middle; bytes = one_text } ∷ []) one_record [] ∷ []
  unfolding computed
  checked_left = ap (λ (a : Answer RunRecord). record_by (outcome_by a [] 0).answer (outcome_by a [] 0) (start (one_checked byte)) 0) check_forced_whole

  -- the record's tag passes exactly where it is the one that all its ciphertext gives
  checked_test_forced : (m.tests by_cipher a_key an_iv one_record (replicate 16 byte) ≡ given tt) ↔ (one_tag ≡ replicate 16 byte)
  unfolding computed UnbrokenCheck
  checked_test_forced = (checked_one.single _ one_record [] checked_left).tests-whole

-- ---- joins, of the records of three runs

abbrev record0 : RunRecord
record0 = record { first = 0; count = 1; preauthenticator = each 0x0101010101010101 }

abbrev record1 : RunRecord
record1 = record { first = 1; count = 1; preauthenticator = each 0x0303030303030303 }

abbrev record2 : RunRecord
record2 = record { first = 2; count = 1; preauthenticator = record { high = 0x8d0d0d0d0d0d0d0d; low = 0x0d0d0d0d0d0d0d0d } }

-- the rack after the three runs
abbrev rack : List Segment
rack =
    recorded (record { first = 0; kind = middle; bytes = replicate 16 3 } ∷ []) record0 (replicate 16 2)
    ∷ recorded (record { first = 1; kind = middle; bytes = replicate 16 4 } ∷ []) record1 (replicate 16 5)
    ∷ recorded (record { first = 2; kind = last; bytes = [] } ∷ []) record2 (0x81 ∷ replicate 15 1)
    ∷ []

-- our calls, but for the joins
abbrev joining_by : (RunRecord → RunRecord → Answer RunRecord) → (List RunRecord → Answer RunRecord) → Calls
joining_by two many = record { seals_run = seal_run in_words toy; checks_run = check_run in_words toy; joins_two = two; joins_list = many; closes = λ t. close in_words t toy; tests = λ t. test in_words t toy }

module _ (two : RunRecord → RunRecord → Answer RunRecord) (many : List RunRecord → Answer RunRecord) (d : Demand3 toy (joining_by two many)) where
  expected : (call : Call) → Allowed rack call → Expected toy (joining_by two many) three_pieces rack call
  unfolding computed
  expected call a =
      (d three_pieces refl three_pieces_formed (run_at 0 16 ∷ run_at 1 16 ∷ run_at 2 16 ∷ call ∷ []) ((lit< tt, refl), ((lit< tt, refl), ((lit< tt, refl), (a, tt))))).answers.1.1.1.0

  -- two neighbours, at the first place and at a later one; two records that are none, at a later place
  pair_forced : two record0 record1 ≡ given (record { first = 0; count = 2; preauthenticator = each 0x0101010101010101 })
  unfolding computed
  pair_forced = (expected (join_pair 0 1) ((refl, (refl, tt)), inl refl)).neighbours 0 1 refl

  pair_forced_later : two record1 record2 ≡ given (record { first = 1; count = 2; preauthenticator = record { high = 0x8b0b0b0b0b0b0b0b; low = 0x0b0b0b0b0b0b0b0b } })
  unfolding computed
  pair_forced_later = (expected (join_pair 1 2) ((refl, (refl, tt)), inl refl)).neighbours 1 1 refl

  pair_forced_apart : two record2 record1 ≡ refused 8
  unfolding computed
  pair_forced_apart = (expected (join_pair 2 1) ((refl, (refl, tt)), inr refl)).others refl

  -- a list of one, of two at a later place, of all three; the empty list; a list that skips a place, and one in the wrong order
  list_forced_one : many (record2 ∷ []) ≡ given record2
  unfolding computed
  list_forced_one = (expected (join_many (2 ∷ [])) ((refl, tt), inl (2, 0, refl))).neighbours 2 0 refl

  list_forced_later : many (record1 ∷ record2 ∷ []) ≡ given (record { first = 1; count = 2; preauthenticator = record { high = 0x8b0b0b0b0b0b0b0b; low = 0x0b0b0b0b0b0b0b0b } })
  unfolding computed
  list_forced_later = (expected (join_many (1 ∷ 2 ∷ [])) ((refl, (refl, tt)), inl (1, 1, refl))).neighbours 1 1 refl

  list_forced_all : many (record0 ∷ record1 ∷ record2 ∷ []) ≡ given (record { first = 0; count = 3; preauthenticator = record { high = 0x8f0f0f0f0f0f0f0f; low = 0x0f0f0f0f0f0f0f0f } })
  unfolding computed
  list_forced_all = (expected (join_many (0 ∷ 1 ∷ 2 ∷ [])) ((refl, (refl, (refl, tt))), inl (0, 2, refl))).neighbours 0 2 refl

  list_forced_empty : many [] ≡ refused 9
  unfolding computed
  list_forced_empty = (expected (join_many []) (tt, inr (inl refl))).empty refl

  list_forced_apart : many (record0 ∷ record2 ∷ []) ≡ refused 8
  unfolding computed
  list_forced_apart = (expected (join_many (0 ∷ 2 ∷ [])) ((refl, (refl, tt)), inr (inr refl))).others refl

  list_forced_order : many (record2 ∷ record1 ∷ []) ≡ refused 8
  unfolding computed
  list_forced_order = (expected (join_many (2 ∷ 1 ∷ [])) ((refl, (refl, tt)), inr (inr refl))).others refl

-- ---- wrong calls, refuted

-- a number or a record in place of another
other_number : {A : Type 0} (a b : ℕ) → ◌≡◌ {A = Answer A} (refused a) (refused b) → a ≡ b
other_number a b e = cc

no_answer : {A : Type 0} (n : ℕ) (x : A) → ◌≡◌ {A = Answer A} (refused n) (given x) → ⊥
no_answer n x e = let z : ◌≡◌ {A = ℕ} 0 1 = cc in omega arith

pub same_answer : {A : Type 0} (x y : A) → ◌≡◌ {A = Answer A} (given x) (given y) → x ≡ y
same_answer x y e = cc

-- our calls, but for the sealing of a run
abbrev sealing_by : (List ℕ → List ℕ → ℕ → Kind → List ℕ → ℕ → Outcome RunRecord) → Calls
sealing_by seals = record { seals_run = seals; checks_run = check_run in_words toy; joins_two = join_two in_words; joins_list = join_list in_words; closes = λ t. close in_words t toy; tests = λ t. test in_words t toy }

-- a sealer that refuses every run
pub refuses_runs_refuted : Demand3 toy (sealing_by (λ key iv first kind bytes room. outcome_by (refused 3) [] room)) → ⊥
refuses_runs_refuted d =
    no_answer 3 one_record (sym (outcome_answer (refused 3) [] 16) ∙ (run_forced (sealing_by (λ key iv first kind bytes room. outcome_by (refused 3) [] room)) d).answers)

-- a sealer that copies the message through, with the right record
pub copied : List ℕ → List ℕ → ℕ → Kind → List ℕ → ℕ → Outcome RunRecord
copied key iv first kind bytes room =
    outcome_by (decide ((5, ltb room (16 * length (blocks_of_run kind bytes))) ∷ []) (run_record in_words toy plaintext key iv first (blocks_of_run kind bytes))) (concat (blocks_of_run kind bytes)) room

-- by what the call writes, by the ciphertext in the rack, and by the whole ciphertext at the end
pub message_copied_refuted : Demand3 toy (sealing_by copied) → ⊥
unfolding computed copied
message_copied_refuted d =
    let e : ◌≡◌ {A = ℕ} 0x80 0x81 = ap (λ (l : List ℕ). get_or l 0 0) (run_forced (sealing_by copied) d).writes in
    omega arith

pub message_copied_refuted_there : Demand3 toy (sealing_by copied) → ⊥
unfolding computed copied
message_copied_refuted_there d =
    let e : ◌≡◌ {A = ℕ} 0x80 0x81 = ap (λ (l : List ℕ). get_or l 0 0) ((one (sealing_by copied) d by_cipher 16).ciphertexts 0 refl) in
    omega arith

pub message_copied_refuted_whole : Demand3 toy (sealing_by copied) → ⊥
unfolding computed copied
message_copied_refuted_whole d =
    let e : ◌≡◌ {A = ℕ} 0x80 0x81 = ap (λ (l : List ℕ). get_or l 0 0) ((one (sealing_by copied) d by_cipher 16).single _ _ _ refl).ciphertext_whole in
    omega arith

-- a sealer that jumps a run by its length, not by its first block
pub by_length : List ℕ → List ℕ → ℕ → Kind → List ℕ → ℕ → Outcome RunRecord
by_length key iv first kind bytes room =
    let blocks = blocks_of_run kind bytes in
    outcome_by
    (decide ((5, ltb room (16 * length blocks)) ∷ [])
    (in_words.make first (length blocks) (pass_from toy plaintext key iv (length blocks) blocks).preauthenticator))
    (pass_from toy plaintext key iv (length blocks) blocks).output room

-- by the record in the rack
pub jumped_by_length_refuted : Demand3 toy (sealing_by by_length) → ⊥
unfolding computed by_length
jumped_by_length_refuted d =
    let e : ◌≡◌ {A = ℕ} 0x8707070707070707 0x8202020202020202 = ap (λ (r : RunRecord). r.preauthenticator.high) ((one (sealing_by by_length) d by_cipher 16).records 0 refl) in
    omega arith

-- a sealer that never finds its output too short
pub room_ignored : List ℕ → List ℕ → ℕ → Kind → List ℕ → ℕ → Outcome RunRecord
room_ignored key iv first kind bytes room = seal_run in_words toy key iv first kind bytes 64000

pub room_ignored_refuted : Demand3 toy (sealing_by room_ignored) → ⊥
unfolding computed room_ignored
room_ignored_refuted d = no_answer 5 one_record (sym (short_forced (sealing_by room_ignored) d).answers)

-- a sealer that gives 10 to every key of zeros, and one that asks 10 before the key is tried as the replacement
pub asks_ten_by : (List ℕ → List ℕ → Bool) → List ℕ → List ℕ → ℕ → Kind → List ℕ → ℕ → Outcome RunRecord
asks_ten_by ten key iv first kind bytes room =
    let blocks = blocks_of_run kind bytes in
    outcome_by (decide ((10, ten key iv) ∷ []) (run_record in_words toy plaintext key iv first blocks)) (pass_from toy plaintext key iv first blocks).output room

abbrev of_zero_keys : List ℕ → List ℕ → Bool
of_zero_keys key iv = same (key_block key) zero_block

pub zero_key_refuted : Demand3 toy (sealing_by (asks_ten_by of_zero_keys)) → ⊥
unfolding computed asks_ten_by
zero_key_refuted d =
    no_answer 10 _ ((d zero_key refl zero_key_formed (run_at 0 16 ∷ []) ((lit< tt, refl), tt)).answers.0.with_room (lit≤ tt)).answers

abbrev before_replaced : List ℕ → List ℕ → Bool
before_replaced key iv = same (xor_bytes (encrypt toy key (xor_bytes iv (key_block key))) (key_block key)) zero_block

pub before_replaced_refuted : Demand3 toy (sealing_by (asks_ten_by before_replaced)) → ⊥
unfolding computed asks_ten_by
before_replaced_refuted d =
    no_answer 10 _ ((d replaced refl replaced_formed (run_at 0 16 ∷ []) ((lit< tt, refl), tt)).answers.0.with_room (lit≤ tt)).answers

-- a sealer that takes keys of 16 bytes alone, and one that lends step 1 the last 16 bytes of a key
pub short_keys_only : List ℕ → List ℕ → ℕ → Kind → List ℕ → ℕ → Outcome RunRecord
short_keys_only key iv first kind bytes room =
    let o = seal_run in_words toy key iv first kind bytes room in
    outcome_by (cond (not16 key) (refused 1) o.answer) (answer_bytes o) room

pub short_keys_only_refuted : Demand3 toy (sealing_by short_keys_only) → ⊥
unfolding computed short_keys_only
short_keys_only_refuted d =
    no_answer 1 _ ((d long_replaced refl long_replaced_formed (run_at 0 16 ∷ []) ((lit< tt, refl), tt)).answers.0.with_room (lit≤ tt)).answers

pub last_lent : List ℕ → List ℕ → ℕ → Kind → List ℕ → ℕ → Outcome RunRecord
last_lent key iv first kind bytes room =
    let blocks = blocks_of_run kind bytes in
    let p = pass toy plaintext key blocks (jump first (start_mask_by toy key (drop (length key - 16) key) iv)) zero_block in
    outcome_by (decide (seal_run_rows toy key iv first kind bytes room) (in_words.make first (length blocks) p.preauthenticator)) p.output room

pub last_lent_refuted : Demand3 toy (sealing_by last_lent) → ⊥
unfolding computed last_lent
last_lent_refuted d =
    let e : ◌≡◌ {A = ℕ} 0 8 = ap (λ (r : RunRecord). r.preauthenticator.low % 16) (same_answer _ _ ((d long_replaced refl long_replaced_formed (run_at 0 16 ∷ []) ((lit< tt, refl), tt)).answers.0.with_room (lit≤ tt)).answers) in
    omega arith

-- a checker that runs the wrong half
pub wrong_half : List ℕ → List ℕ → ℕ → List ℕ → Answer RunRecord
wrong_half key iv first bytes = decide (check_run_rows toy key iv first bytes) (run_record in_words toy plaintext key iv first (blocks_of bytes))

abbrev checking_by : (List ℕ → List ℕ → ℕ → List ℕ → Answer RunRecord) → Calls
checking_by checks = record { seals_run = seal_run in_words toy; checks_run = checks; joins_two = join_two in_words; joins_list = join_list in_words; closes = λ t. close in_words t toy; tests = λ t. test in_words t toy }

pub wrong_half_refuted : Demand3 toy (checking_by wrong_half) → ⊥
unfolding computed wrong_half
wrong_half_refuted d =
    let e : ◌≡◌ {A = ℕ} 0 0x0101010101010101 = ap (λ (r : RunRecord). r.preauthenticator.high) (same_answer _ _ (check_forced (checking_by wrong_half) d)) in
    omega arith

-- a checker that takes every run for the first
pub always_first : List ℕ → List ℕ → ℕ → List ℕ → Answer RunRecord
always_first key iv first bytes = decide (check_run_rows toy key iv first bytes) (in_words.make first 1 (pass_from toy ciphertext key iv 0 (blocks_of bytes)).preauthenticator)

pub always_first_refuted : Demand3 toy (checking_by always_first) → ⊥
unfolding computed always_first
always_first_refuted d =
    let e : ◌≡◌ {A = ℕ} 0x0101010101010101 0x0b0b0b0b0b0b0b0b = ap (λ (r : RunRecord). r.preauthenticator.high) (same_answer _ _ (check_forced_later (checking_by always_first) d)) in
    omega arith

-- a joiner that works the first pair and skips the remaining records (document 01, Agreement)
pub first_pair : List RunRecord → RunRecord
first_pair [] = blank in_words
first_pair (r ∷ []) = r
first_pair (l ∷ r ∷ rs) = joined in_words l r

pub first_pair_only_refuted : Demand3 toy (joining_by (join_two in_words) (λ rs. decide (join_list_rows in_words rs) (first_pair rs))) → ⊥
unfolding computed first_pair
first_pair_only_refuted d =
    let e : ◌≡◌ {A = ℕ} 2 3 = ap (λ (r : RunRecord). r.count) (same_answer _ _ (list_forced_all (join_two in_words) (λ rs. decide (join_list_rows in_words rs) (first_pair rs)) d)) in
    omega arith

-- a joiner that refuses every list, and one that gives 8 for the empty list
pub refuses_lists_refuted : Demand3 toy (joining_by (join_two in_words) (λ rs. refused 8)) → ⊥
refuses_lists_refuted d = no_answer 8 record2 (list_forced_one (join_two in_words) (λ rs. refused 8) d)

pub empty_list_apart_refuted : Demand3 toy (joining_by (join_two in_words) (λ rs. decide ((4, any_beyond in_words rs) ∷ (8, apart in_words rs) ∷ (8, none rs) ∷ []) (joined_all in_words rs))) → ⊥
unfolding computed
empty_list_apart_refuted d =
    let e : ◌≡◌ {A = ℕ} 8 9 = other_number 8 9 (list_forced_empty (join_two in_words) (λ rs. decide ((4, any_beyond in_words rs) ∷ (8, apart in_words rs) ∷ (8, none rs) ∷ []) (joined_all in_words rs)) d) in
    omega arith

-- a joiner that multiplies the right record, not the left
pub right_times : RunRecord → RunRecord → RunRecord
right_times l r = in_words.make l.first (l.count + r.count) (xor_bytes (bytes_of l.preauthenticator) (jump l.count (bytes_of r.preauthenticator)))

pub right_multiplied_refuted : Demand3 toy (joining_by (λ l r. decide (join_two_rows in_words l r) (right_times l r)) (join_list in_words)) → ⊥
unfolding computed right_times
right_multiplied_refuted d =
    let e : ◌≡◌ {A = ℕ} 0x0707070707070707 0x0101010101010101 = ap (λ (r : RunRecord). r.preauthenticator.high) (same_answer _ _ (pair_forced (λ l r. decide (join_two_rows in_words l r) (right_times l r)) (join_list in_words) d)) in
    omega arith

-- a joiner that does not add the lower word of the right one, and a sealer whose record has its words swapped
pub low_not_added : RunRecord → RunRecord → RunRecord
low_not_added l r =
    record {
      first = l.first;
      count = l.count + r.count;
      preauthenticator = record { high = (joined in_words l r).preauthenticator.high; low = (words_of (jump r.count (bytes_of l.preauthenticator))).low };
    }

pub low_not_added_refuted : Demand3 toy (joining_by (λ l r. decide (join_two_rows in_words l r) (low_not_added l r)) (join_list in_words)) → ⊥
unfolding computed low_not_added
low_not_added_refuted d =
    let e : ◌≡◌ {A = ℕ} 0x0202020202020202 0x0101010101010101 = ap (λ (r : RunRecord). r.preauthenticator.low) (same_answer _ _ (pair_forced (λ l r. decide (join_two_rows in_words l r) (low_not_added l r)) (join_list in_words) d)) in
    omega arith

pub swapped : RunRecord → RunRecord
swapped r = record { first = r.first; count = r.count; preauthenticator = record { high = r.preauthenticator.low; low = r.preauthenticator.high } }

pub words_swapped : List ℕ → List ℕ → ℕ → Kind → List ℕ → ℕ → Outcome RunRecord
words_swapped key iv first kind bytes room =
    outcome_by (decide (seal_run_rows toy key iv first kind bytes room) (swapped (run_record in_words toy plaintext key iv first (blocks_of_run kind bytes)))) (pass_from toy plaintext key iv first (blocks_of_run kind bytes)).output room

pub words_swapped_refuted : Demand3 toy (sealing_by words_swapped) → ⊥
unfolding computed words_swapped swapped
words_swapped_refuted d =
    let e : ◌≡◌ {A = ℕ} 0x0202020202020202 0x8202020202020202 = ap (λ (r : RunRecord). r.preauthenticator.high) ((one (sealing_by words_swapped) d by_cipher 16).records 0 refl) in
    omega arith

-- a joiner that gives 4 for 8 where the left record does not start at block 0
pub wrong_later : RunRecord → RunRecord → Answer RunRecord
wrong_later l r = decide ((4, any_beyond in_words (l ∷ r ∷ [])) ∷ (cond (eqb l.first 0) 8 4, apart in_words (l ∷ r ∷ [])) ∷ []) (joined in_words l r)

pub wrong_number_later_refuted : Demand3 toy (joining_by wrong_later (join_list in_words)) → ⊥
unfolding computed wrong_later
wrong_number_later_refuted d =
    let e : ◌≡◌ {A = ℕ} 4 8 = other_number 4 8 (pair_forced_apart wrong_later (join_list in_words) d) in
    omega arith

-- a closer that takes the mask before the last block, not after it
pub mask_before : Finish → List ℕ → List ℕ → RunRecord → Answer (List ℕ)
mask_before t key iv r = decide (close_rows in_words toy key iv r) (t.tag_from toy key (bytes_of r.preauthenticator) (jump (r.count - 1) (start_mask toy key iv)))

abbrev pub closing_by : (Finish → List ℕ → List ℕ → RunRecord → Answer (List ℕ)) → (Finish → List ℕ → List ℕ → RunRecord → List ℕ → Answer (Unit {0})) → Calls
closing_by closes tests = record { seals_run = seal_run in_words toy; checks_run = check_run in_words toy; joins_two = join_two in_words; joins_list = join_list in_words; closes = closes; tests = tests }

pub mask_before_last_refuted : Demand3 toy (closing_by mask_before (λ t. test in_words t toy)) → ⊥
unfolding computed mask_before
mask_before_last_refuted d =
    let e : ◌≡◌ {A = ℕ} 2 7 = ap (λ (t : List ℕ). get_or t 0 0) (same_answer _ _ (close_forced (closing_by mask_before (λ t. test in_words t toy)) d)) in
    omega arith

-- a test that passes every tag, and one that passes none: of a message that is sealed, and of a record that is checked
pub passes_any_tag_refuted : Demand3 toy (closing_by (λ t. close in_words t toy) (λ t key iv r tag. given tt)) → ⊥
passes_any_tag_refuted d =
    let e : ◌≡◌ {A = ℕ} 7 0 = ap (λ (t : List ℕ). get_or t 0 0) ((test_forced (closing_by (λ t. close in_words t toy) (λ t key iv r tag. given tt)) d (replicate 16 0) refl).0 refl) in
    omega arith

pub passes_no_tag_refuted : Demand3 toy (closing_by (λ t. close in_words t toy) (λ t key iv r tag. refused 6)) → ⊥
passes_no_tag_refuted d = no_answer 6 tt ((test_forced (closing_by (λ t. close in_words t toy) (λ t key iv r tag. refused 6)) d one_tag refl).1 refl)

pub passes_any_checked_refuted : Demand3 toy (closing_by (λ t. close in_words t toy) (λ t key iv r tag. given tt)) → ⊥
passes_any_checked_refuted d =
    let e : ◌≡◌ {A = ℕ} 7 0 = ap (λ (t : List ℕ). get_or t 0 0) ((checked_test_forced (closing_by (λ t. close in_words t toy) (λ t key iv r tag. given tt)) d 0).0 refl) in
    omega arith

pub passes_no_checked_refuted : Demand3 toy (closing_by (λ t. close in_words t toy) (λ t key iv r tag. refused 6)) → ⊥
passes_no_checked_refuted d = no_answer 6 tt ((checked_test_forced (closing_by (λ t. close in_words t toy) (λ t key iv r tag. refused 6)) d 7).1 refl)
