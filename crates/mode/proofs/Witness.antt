-- The statements of the demands are not empty: a list of calls over a message that is allowed, with four refused calls, an empty run and a
-- join of a list; one over a ciphertext; one under a key of 32 bytes; a pair that is left out, and its neighbours, which are not; and records that are opened, refused
-- with 6 and refused with 7. The crate `examples` has some with the hash finish.
use mathlib.Core.Path.{◌≡◌, refl}
use mathlib.Core.Logic.{inl, inr}
use mathlib.Core.List.{List, [], ◌∷◌, ◌++◌}
use Prim.Native.Nat.{ℕ}
use lib.ListN.{take, get_or, replicate}
use lib.Dec.{lit<, lit≤}
use lib.Bits.{bit_xor}
use Rattle.blocks.proofs.Test.{bytes_by}
use Rattle.mode.specs.Mode.{by_cipher, plaintext, RunRecord, in_words, zero_block, sealed_record, unbroken, unbroken_tag}
use Rattle.mode.specs.Table.{refused, given}
use Rattle.mode.specs.Calls.{middle, last, number, seal_run, calls_of, open_sealed}
use Rattle.mode.specs.Parallel.{sealing, Setting, WellFormed, Run, Segment, recorded, blocks_in, Call, run_at, join_pair, join_many, Allowed, start, answer_of, after, after_all, EachCall}
use Rattle.mode.specs.Demands.{Agrees}
use Rattle.mode.proofs.Demand3.{demand3}
use Rattle.mode.proofs.Toy.{toy, toy_lawful, computed, a_key, a_key_is, a_long_key, a_long_key_is, an_iv, zero_key, zero_key_formed, two_checked}

-- ---- over a message

-- 37 bytes in four pieces: a block, nothing, a block, five bytes that get the padding
abbrev four_pieces : Setting
four_pieces =
    record {
      key = a_key;
      work = sealing by_cipher an_iv (replicate 16 3 ++ (replicate 16 4 ++ replicate 5 5));
      pieces = replicate 16 3 ∷ [] ∷ replicate 16 4 ∷ replicate 5 5 ∷ [];
    }

four_pieces_formed : WellFormed four_pieces
unfolding computed
four_pieces_formed =
    record { key_is = a_key_is; iv_bytes = bytes_by an_iv tt; text_bytes = bytes_by (replicate 16 3 ++ (replicate 16 4 ++ replicate 5 5)) tt; fits = (refl, lit≤ tt); cut = (refl, (refl, (refl, tt))); pieces_are = refl }

-- short of a byte; then with room; the last run before the others; a list out of order; the empty list; the empty run; one place twice;
-- two neighbours; a list of one; the third run; then all that is left as a list
abbrev calls : List Call
calls =
    run_at 0 15 ∷ run_at 0 16 ∷ run_at 3 20 ∷ join_many (3 ∷ 0 ∷ []) ∷ join_many [] ∷ run_at 1 0 ∷ join_pair 0 0 ∷ join_pair 0 1 ∷ join_many (0 ∷ []) ∷ run_at 1 16
    ∷ join_many (0 ∷ 1 ∷ 2 ∷ []) ∷ []

allowed : EachCall (calls_of toy) four_pieces Allowed (start four_pieces) calls
unfolding computed
allowed = (
  (lit< tt, refl),
  (
    (lit< tt, refl),
    (
      (lit< tt, refl),
      (
        ((refl, (refl, tt)), inr (inr refl)),
        (
          (tt, inr (inl refl)),
          (
            (lit< tt, refl),
            (((refl, (refl, tt)), inr refl), (((refl, (refl, tt)), inl refl), (((refl, tt), inl (0, 0, refl)), ((lit< tt, refl), (((refl, (refl, (refl, tt))), inl (0, 2, refl)), tt))))),
          ),
        ),
      ),
    ),
  ),
)

-- so demand 3 says something of it
agrees : Agrees toy (calls_of toy) four_pieces calls (after_all (calls_of toy) four_pieces (start four_pieces) calls)
agrees = demand3 toy toy_lawful four_pieces (unfold computed in refl) four_pieces_formed calls allowed

numbers : List Segment → List Call → List ℕ
numbers xs [] = []
numbers xs (call ∷ calls) = number (answer_of (calls_of toy) four_pieces xs call) ∷ numbers (after (calls_of toy) four_pieces xs call) calls

-- the refused calls among them got 5, 8, 9 and 8
numbers_are : numbers (start four_pieces) calls ≡ (5 ∷ 0 ∷ 0 ∷ 8 ∷ 9 ∷ 0 ∷ 8 ∷ 0 ∷ 0 ∷ 0 ∷ 0 ∷ [])
unfolding computed numbers number
numbers_are = refl

-- and a single filled place is left, of which `single` speaks
single_left : (rs : List Run) × (r : RunRecord) × (bytes : List ℕ) × (after_all (calls_of toy) four_pieces (start four_pieces) calls ≡ recorded rs r bytes ∷ [])
unfolding computed
single_left = (_, _, _, refl)

-- the blocks of the rack are those of the message, padded: three of them
blocks_are : blocks_in (after_all (calls_of toy) four_pieces (start four_pieces) calls) ≡ replicate 16 3 ∷ replicate 16 4 ∷ (replicate 5 5 ++ (0x80 ∷ replicate 10 0)) ∷ []
unfolding computed
blocks_are = agrees.blocks_are

-- ---- over a ciphertext: two runs, the second first; the wrong order; then the pair

abbrev checks : List Call
checks = run_at 1 0 ∷ run_at 0 0 ∷ join_pair 1 0 ∷ join_pair 0 1 ∷ []

checks_allowed : EachCall (calls_of toy) two_checked Allowed (start two_checked) checks
unfolding computed
checks_allowed = ((lit< tt, refl), ((lit< tt, refl), (((refl, (refl, tt)), inr refl), (((refl, (refl, tt)), inl refl), tt))))

-- ---- under a key of 32 bytes: 21 bytes in two pieces, the second first; short of a byte; then the pair

abbrev long_keyed : Setting
long_keyed = record { key = a_long_key; work = sealing by_cipher an_iv (replicate 16 3 ++ replicate 5 5); pieces = replicate 16 3 ∷ replicate 5 5 ∷ [] }

long_keyed_formed : WellFormed long_keyed
unfolding computed
long_keyed_formed =
    record { key_is = a_long_key_is; iv_bytes = bytes_by an_iv tt; text_bytes = bytes_by (replicate 16 3 ++ replicate 5 5) tt; fits = (refl, lit≤ tt); cut = (refl, tt); pieces_are = refl }

abbrev long_calls : List Call
long_calls = run_at 1 16 ∷ run_at 0 15 ∷ run_at 0 16 ∷ join_pair 0 1 ∷ []

long_allowed : EachCall (calls_of toy) long_keyed Allowed (start long_keyed) long_calls
unfolding computed
long_allowed = ((lit< tt, refl), ((lit< tt, refl), ((lit< tt, refl), (((refl, (refl, tt)), inl refl), tt))))

long_agrees : Agrees toy (calls_of toy) long_keyed long_calls (after_all (calls_of toy) long_keyed (start long_keyed) long_calls)
long_agrees = demand3 toy toy_lawful long_keyed (unfold computed in refl) long_keyed_formed long_calls long_allowed

long_left : (rs : List Run) × (r : RunRecord) × (bytes : List ℕ) × (after_all (calls_of toy) long_keyed (start long_keyed) long_calls ≡ recorded rs r bytes ∷ [])
unfolding computed
long_left = (_, _, _, refl)

-- the last 16 bytes encrypt: the start mask is 2 + 9, and the middletext that + 3 + 9
long_sealed : (seal_run in_words toy a_long_key an_iv 0 middle (replicate 16 3) 16).answer ≡ given (record { first = 0; count = 1; preauthenticator = record { high = 0x0101010101010101; low = 0x0101010101010101 } })
unfolding computed
long_sealed = refl

-- the first 16 take the place of a start mask of zero: the middletext is 1 + 3 + 9
long_replaced_sealed : (seal_run in_words toy a_long_key (replicate 16 9) 0 middle (replicate 16 3) 16).answer ≡ given (record { first = 0; count = 1; preauthenticator = record { high = 0x0b0b0b0b0b0b0b0b; low = 0x0b0b0b0b0b0b0b0b } })
unfolding computed
long_replaced_sealed = refl

-- so it is refused with 10 only where the first 16 are zero; the last 16 may be
long_zero_refused : (seal_run in_words toy (zero_block ++ replicate 16 9) (replicate 16 9) 0 last [] 16).answer ≡ refused 10
unfolding computed
long_zero_refused = refl

last_zero_sealed : number (seal_run in_words toy (replicate 16 9 ++ zero_block) zero_block 0 last [] 16).answer ≡ 0
unfolding computed number
last_zero_sealed = refl

-- a key of 24 bytes is refused with 1
between_refused : (seal_run in_words toy (replicate 24 1) an_iv 0 last [] 16).answer ≡ refused 1
unfolding computed
between_refused = refl

-- ---- a zero start mask: over this cipher, that of the zero key and the zero IV

-- refused with 10, an empty run too
zero_mask_refused : (seal_run in_words toy zero_block zero_block 0 last [] 16).answer ≡ refused 10
unfolding computed
zero_mask_refused = refl

zero_mask_empty_refused : (seal_run in_words toy zero_block zero_block 4000 middle [] 0).answer ≡ refused 10
unfolding computed
zero_mask_empty_refused = refl

-- a start mask that the key took the place of is none: it is 1 in each byte
replaced_sealed : (seal_run in_words toy a_key a_key 0 middle (replicate 16 3) 16).answer ≡ given (record { first = 0; count = 1; preauthenticator = record { high = 0x0303030303030303; low = 0x0303030303030303 } })
unfolding computed
replaced_sealed = refl

-- the zero key with another IV is cut like any other
zero_key_agrees : Agrees toy (calls_of toy) zero_key (run_at 0 16 ∷ []) (after_all (calls_of toy) zero_key (start zero_key) (run_at 0 16 ∷ []))
unfolding computed
zero_key_agrees = demand3 toy toy_lawful zero_key refl zero_key_formed (run_at 0 16 ∷ []) ((lit< tt, refl), tt)

-- ---- opening: a message that was sealed, a record with a bit of its tag flipped, a record whose last block is not padded; each with enough
-- output and with too little

abbrev sealed : List ℕ
sealed = sealed_record by_cipher toy a_key an_iv (5 ∷ 6 ∷ 7 ∷ [])

opens : ((open_sealed by_cipher toy a_key sealed 16).answer ≡ given (5 ∷ 6 ∷ 7 ∷ [])) × ((open_sealed by_cipher toy a_key sealed 3).answer ≡ given (5 ∷ 6 ∷ 7 ∷ []))
unfolding computed
opens = (refl, refl)

too_short : (open_sealed by_cipher toy a_key sealed 2).answer ≡ refused 5
unfolding computed
too_short = refl

-- the same under the key of 32 bytes, which the key of its first 16 does not open
long-opens : (open_sealed by_cipher toy a_long_key (sealed_record by_cipher toy a_long_key an_iv (5 ∷ 6 ∷ 7 ∷ [])) 16).answer ≡ given (5 ∷ 6 ∷ 7 ∷ [])
unfolding computed
long-opens = refl

first-block-opens-not : (open_sealed by_cipher toy a_key (sealed_record by_cipher toy a_long_key an_iv (5 ∷ 6 ∷ 7 ∷ [])) 16).answer ≡ refused 6
unfolding computed
first-block-opens-not = refl

abbrev flipped_record : List ℕ
flipped_record = take 47 sealed ++ (bit_xor (get_or sealed 47 0) 1 ∷ [])

flipped : ((open_sealed by_cipher toy a_key flipped_record 16).answer ≡ refused 6) × ((open_sealed by_cipher toy a_key flipped_record 2).answer ≡ refused 6)
unfolding computed
flipped = (refl, refl)

abbrev unpadded_record : List ℕ
unpadded_record =
    an_iv ++ (unbroken toy plaintext a_key an_iv (replicate 16 255 ∷ [])).output ++ unbroken_tag by_cipher toy plaintext a_key an_iv (replicate 16 255 ∷ [])

not-padded : ((open_sealed by_cipher toy a_key unpadded_record 16).answer ≡ refused 7) × ((open_sealed by_cipher toy a_key unpadded_record 0).answer ≡ refused 7)
unfolding computed
not-padded = (refl, refl)
