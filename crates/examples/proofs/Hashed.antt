-- The hash finish in small cases, over the cipher of the mode's proofs/Toy: records that are opened and refused; what demand 3 forces on any
-- calls; and wrong calls, of which it does not hold.
use mathlib.Core.Path.{◌≡◌, refl, ap}
use mathlib.Core.Logic.{inl, ◌↔◌}
use mathlib.Core.List.{List, [], ◌∷◌, ◌++◌}
use Prim.Native.Nat.{ℕ}
use native.Mathlib.Omega.{arith}
use lib.ListN.{length, take, get_or, replicate}
use lib.Dec.{lit<, lit≤}
use lib.Bits.{bit_xor}
use Rattle.blocks.specs.Words.{bytes_of}
use Rattle.blocks.proofs.Test.{bytes_by}
use Rattle.gf128.specs.Gf128.{jump}
use Rattle.fips180.specs.Sha1.{sha1}
use Rattle.fips180.proofs.Computed as Sha1
use Rattle.mode.specs.declared.RunRecord.{RunRecord}
use Rattle.mode.specs.Mode.{in_words, Finish, by_cipher, by_sha1, key_block, start_mask, sealed_record}
use Rattle.mode.specs.Table.{Answer, refused, given, decide}
use Rattle.mode.specs.Calls.{last, open_sealed, close, close_rows, test, Calls, calls_of}
use Rattle.mode.specs.Parallel.{sealing, Setting, WellFormed, recorded, Call, run_at, join_pair, Allowed, start, after_all, EachCall}
use Rattle.mode.specs.Demands.{Gives, Agrees, Demand3}
use Rattle.mode.proofs.Demand3.{demand3}
use Rattle.mode.proofs.Toy.{toy, toy_lawful, computed, a_key, a_long_key, a_long_key_is, an_iv}
use Rattle.mode.proofs.Refuted.{one_record, one-whole, closing_by, same_answer}

-- ---- records and tags

abbrev sealed : List ℕ
sealed = sealed_record by_cipher toy a_key an_iv (5 ∷ 6 ∷ 7 ∷ [])

abbrev hashed : List ℕ
hashed = sealed_record by_sha1 toy a_key an_iv (5 ∷ 6 ∷ 7 ∷ [])

-- a block is 52 bytes, and is opened, into the message's length too; with a byte less, or with a bit of its tag flipped, it is not
hashed_opens : (length hashed ≡ 52) × ((open_sealed by_sha1 toy a_key hashed 16).answer ≡ given (5 ∷ 6 ∷ 7 ∷ [])) × ((open_sealed by_sha1 toy a_key hashed 3).answer ≡ given (5 ∷ 6 ∷ 7 ∷ []))
unfolding computed Sha1.computed
hashed_opens = (refl, refl, refl)

hashed_too_short : (open_sealed by_sha1 toy a_key hashed 2).answer ≡ refused 5
unfolding computed Sha1.computed
hashed_too_short = refl

hashed_flipped : (open_sealed by_sha1 toy a_key (take 51 hashed ++ (bit_xor (get_or hashed 51 0) 1 ∷ [])) 16).answer ≡ refused 6
unfolding computed Sha1.computed
hashed_flipped = refl

-- either finish refuses the other's records, and the other's tags, with 3
others-records : ((open_sealed by_cipher toy a_key hashed 16).answer ≡ refused 3) × ((open_sealed by_sha1 toy a_key sealed 16).answer ≡ refused 3)
unfolding computed Sha1.computed
others-records = (refl, refl)

abbrev some_record : RunRecord
some_record = record { first = 0; count = 1; preauthenticator = record { high = 0; low = 0 } }

others_tags : (test in_words by_sha1 toy a_key an_iv some_record (replicate 16 0) ≡ refused 3) × (test in_words by_cipher toy a_key an_iv some_record (replicate 20 0) ≡ refused 3)
unfolding computed Sha1.computed
others_tags = (refl, refl)

-- ---- a list of calls: 21 bytes in two pieces, the second first; short of a byte; then the pair

abbrev calls : List Call
calls = run_at 1 16 ∷ run_at 0 15 ∷ run_at 0 16 ∷ join_pair 0 1 ∷ []

abbrev hashed_pieces : Setting
hashed_pieces = record { key = a_long_key; work = sealing by_sha1 an_iv (replicate 16 3 ++ replicate 5 5); pieces = replicate 16 3 ∷ replicate 5 5 ∷ [] }

hashed_formed : WellFormed hashed_pieces
unfolding computed Sha1.computed
hashed_formed =
    record { key_is = a_long_key_is; iv_bytes = bytes_by an_iv tt; text_bytes = bytes_by (replicate 16 3 ++ replicate 5 5) tt; fits = (refl, lit≤ tt); cut = (refl, tt); pieces_are = refl }

hashed_allowed : EachCall (calls_of toy) hashed_pieces Allowed (start hashed_pieces) calls
unfolding computed Sha1.computed
hashed_allowed = ((lit< tt, refl), ((lit< tt, refl), ((lit< tt, refl), (((refl, (refl, tt)), inl refl), tt))))

hashed_agrees : Agrees toy (calls_of toy) hashed_pieces calls (after_all (calls_of toy) hashed_pieces (start hashed_pieces) calls)
hashed_agrees = demand3 toy toy_lawful hashed_pieces (unfold computed Sha1.computed in refl) hashed_formed calls hashed_allowed

-- ---- one run of the empty message: its record, the mask 6 in each byte after it, and SHA-1 of the key and both

abbrev one_hash : List ℕ
one_hash = 0xfa ∷ 0xb9 ∷ 0x71 ∷ 0x3c ∷ 0xc3 ∷ 0x92 ∷ 0xa4 ∷ 0x17 ∷ 0x3d ∷ 0xad ∷ 0x8c ∷ 0x7f ∷ 0x92 ∷ 0x2b ∷ 0x10 ∷ 0x42 ∷ 0xb1 ∷ 0xb4 ∷ 0x19 ∷ 0x1c ∷ []

module _ (m : Calls) (d : Demand3 toy m) where
  -- closing it gives this tag, and no other passes
  hash_forced : m.closes by_sha1 a_key an_iv one_record ≡ given one_hash
  unfolding computed Sha1.computed
  hash_forced = (one-whole m d by_sha1).closes_whole

  test_hash_forced : (tag : List ℕ) → length tag ≡ 20 → (m.tests by_sha1 a_key an_iv one_record tag ≡ given tt) ↔ (one_hash ≡ tag)
  unfolding computed Sha1.computed
  test_hash_forced = (one-whole m d by_sha1).tests-whole

-- ---- one run under the key of 32 bytes: the start mask is 11 in each byte, so that the middletext is the same, and the mask after it is 22

abbrev long_tag : List ℕ
long_tag = 0x2b ∷ 0x72 ∷ 0x4b ∷ 0xb8 ∷ 0x00 ∷ 0x08 ∷ 0x5e ∷ 0x26 ∷ 0x37 ∷ 0x95 ∷ 0x5f ∷ 0xf8 ∷ 0x0c ∷ 0xaa ∷ 0x19 ∷ 0x67 ∷ 0xe1 ∷ 0x5d ∷ 0x62 ∷ 0x1f ∷ []

abbrev long_text : List ℕ
long_text = 0x89 ∷ replicate 15 9

-- the empty message under the key of 32 bytes, with any finish
abbrev one_piece_long : Finish → Setting
one_piece_long t = record { key = a_long_key; work = sealing t an_iv []; pieces = [] ∷ [] }

one_piece_long_formed : (t : Finish) → WellFormed (one_piece_long t)
unfolding computed Sha1.computed
one_piece_long_formed t = record { key_is = a_long_key_is; iv_bytes = bytes_by an_iv tt; text_bytes = bytes_by [] tt; fits = (refl, lit≤ tt); cut = tt; pieces_are = refl }

module _ (m : Calls) (d : Demand3 toy m) where
  long-one : Agrees toy m (one_piece_long by_sha1) (run_at 0 16 ∷ []) (after_all m (one_piece_long by_sha1) (start (one_piece_long by_sha1)) (run_at 0 16 ∷ []))
  unfolding computed Sha1.computed
  long-one = d (one_piece_long by_sha1) refl (one_piece_long_formed by_sha1) (run_at 0 16 ∷ []) ((lit< tt, refl), tt)

  long_run_forced : Gives (m.seals_run a_long_key an_iv 0 last [] 16) one_record long_text 16
  unfolding computed Sha1.computed
  long_run_forced = long-one.answers.0.with_room (lit≤ tt)

  long_one_left : after_all m (one_piece_long by_sha1) (start (one_piece_long by_sha1)) (run_at 0 16 ∷ []) ≡ recorded (record { first = 0; kind = last; bytes = [] } ∷ []) one_record long_text ∷ []
  unfolding computed Sha1.computed
  long_one_left = rw (long_run_forced.answers, long_run_forced.reports, long_run_forced.writes)

  -- all 32 bytes are hashed
  long_hash_forced : m.closes by_sha1 a_long_key an_iv one_record ≡ given long_tag
  unfolding computed Sha1.computed
  long_hash_forced = (long-one.single _ one_record long_text long_one_left).closes_whole

-- ---- wrong finishes: one tag for both, and what is hashed

pub cipher_for_both : Finish → List ℕ → List ℕ → RunRecord → Answer (List ℕ)
cipher_for_both t = close in_words by_cipher toy

pub cipher_for_both_refuted : Demand3 toy (closing_by cipher_for_both (λ t. test in_words t toy)) → ⊥
unfolding computed Sha1.computed cipher_for_both
cipher_for_both_refuted d =
    let e : ◌≡◌ {A = ℕ} 7 0xfa = ap (λ (t : List ℕ). get_or t 0 0) (same_answer _ _ (hash_forced (closing_by cipher_for_both (λ t. test in_words t toy)) d)) in
    omega arith

-- SHA-1 of something else, whatever the finish
pub hashing : (List ℕ → List ℕ → List ℕ → List ℕ) → Finish → List ℕ → List ℕ → RunRecord → Answer (List ℕ)
hashing text t key iv r = decide (close_rows in_words toy key iv r) (sha1 (text key (bytes_of r.preauthenticator) (jump r.count (start_mask toy key iv))))

pub mask_first_refuted : Demand3 toy (closing_by (hashing (λ key a mask. key ++ mask ++ a)) (λ t. test in_words t toy)) → ⊥
unfolding computed Sha1.computed hashing
mask_first_refuted d =
    let e : ◌≡◌ {A = ℕ} 0xd8 0xfa = ap (λ (t : List ℕ). get_or t 0 0) (same_answer _ _ (hash_forced (closing_by (hashing (λ key a mask. key ++ mask ++ a)) (λ t. test in_words t toy)) d)) in
    omega arith

-- of the first 16 bytes of a key of 32
pub first_16_hashed_refuted : Demand3 toy (closing_by (hashing (λ key a mask. key_block key ++ a ++ mask)) (λ t. test in_words t toy)) → ⊥
unfolding computed Sha1.computed hashing
first_16_hashed_refuted d =
    let e : ◌≡◌ {A = ℕ} 0xe5 0x2b = ap (λ (t : List ℕ). get_or t 0 0) (same_answer _ _ (long_hash_forced (closing_by (hashing (λ key a mask. key_block key ++ a ++ mask)) (λ t. test in_words t toy)) d)) in
    omega arith

-- a test that passes every tag of 20 bytes
pub passes_any_hash_refuted : Demand3 toy (closing_by (λ t. close in_words t toy) (λ t key iv r tag. given tt)) → ⊥
passes_any_hash_refuted d =
    let e : ◌≡◌ {A = ℕ} 0xfa 0 = ap (λ (t : List ℕ). get_or t 0 0) ((test_hash_forced (closing_by (λ t. close in_words t toy) (λ t key iv r tag. given tt)) d (replicate 20 0) refl).0 refl) in
    omega arith
