-- What the demands may not lose: whatever sealing and opening take may be cut, at every block; every call that document 01 allows is allowed, at
-- every place; no pair is left out but one for each key that lends zeros, every call refuses that one, and its row is all that is new; keys
-- have 16 bytes or 32; tags 16 or 20, and records the lengths that go with them; jumps go both ways up to the limit, which is ticket P7's, and what a
-- lower one did not refuse has the same outcome; a list is opened into the
-- space that it needs, and with the old size as before; the table's order is document 01's, opening's is ticket P6's, and no other order passes for
-- either; every record in words is joined and closed as its bytes are.
use mathlib.Core.Path.{◌≡◌, refl, sym, ap, ap₂, subst, ◌∙◌}
use mathlib.Core.Logic.{◌⊎◌, inl, inr, ◌↔◌}
use mathlib.Core.List.{List, [], ◌∷◌, ◌++◌, map}
use mathlib.Core.Bool.{Bool, true, false, cond, not, ◌||◌}
use Prim.Native.Nat.{ℕ, suc, ◌+◌, ◌*◌, ◌-◌, ◌%◌, ◌≤◌, ◌<◌}
use lib.IntN.{ℤ, pos, negsuc, neg_ℤ, neg_ℤ-neg_ℤ, nat_abs}
use lib.ListN.{length, drop, replicate, length-append}
use lib.Dec.{eqb, ltb}
use native.Mathlib.Omega.{arith}
use Rattle.blocks.specs.Bytes.{Bytes, Block, zeros, xor_bytes, same, first_blocks, concat}
use Rattle.blocks.specs.declared.words.Words.{Words}
use Rattle.blocks.specs.Words.{Proper, bytes_of, words_of}
use Rattle.blocks.proofs.Chunks.{bytes_take, bytes_drop, bytes_append}
use Rattle.blocks.proofs.Sign.{abs_neg}
use Rattle.gf128.proofs.TimesX.{block-zero}
use Rattle.fips197.specs.KeyExpansion.{round_keys}
use Rattle.fips197.specs.Cipher.{cipher, inv_cipher, after_round}
use Rattle.fips197.specs.Aes.{KeyLength, short, long, Key}
use Rattle.fips180.specs.Sha1.{sha1, longest_text}
use Rattle.mode.specs.Mode.{Cipher, Finish, overhead, by_cipher, by_sha1, plaintext, ciphertext, RunRecord, in_words, ByteRecord, in_bytes, zero_block, key_block, encrypt, start_mask, blocks_of, iv_part, cipher_part, tag_part, sealed_record, unbroken_tag, UnbrokenCheck}
use Rattle.mode.specs.Table.{Answer, refused, given, decide, table_order, open_order, in_order, not_key, not16, unaligned, too_long, not_tag, not_sealed, not_sealed_within, beyond, too_far, too_far_within, apart, not_whole, zero_mask, too_short, limit, longest_message, longest_message_within, longest_sealed, longest_sealed_within, beyond_within, any_beyond_within}
use Rattle.mode.specs.Calls.{Outcome, Kind, middle, last, outcome_by, blocks_of_run, unaligned_run, seal, seal_within, open_sealed, open_within, open_rows_within, unpadded, not_padded, or_empty, plaintext_of, pass_from, run_record, seal_run, seal_run_within, check_run, check_run_within, join_two, join_two_within, join_list, join_list_within, closing_tag, close, close_within, test, test_within, jump_mask, jump_mask_within, Calls, calls_of}
use Rattle.mode.specs.OpenBefore.{open_rows_before, open_before}
use Rattle.mode.specs.Parallel.{sealing, checking, iv_of, last_kind, text_of, Fits, Cut, Setting, WellFormed, Segment, is_recorded, segment, Call, run_at, join_pair, join_many, consecutive, AllRecorded, records_at, Allowed, start, room_of, run_outcome, after_all, EachCall}
use Rattle.mode.specs.Demands.{IsAes, Aes128And256, KeyInStepOne, TwoFinishes, Gives, Refuses, InTable, NonzeroMask, SealedFrom, Demand2a, Demand2b, Demand2d, OldSize, Agrees, Demand3, ZeroMask, zero_mask_iv, without, AsBefore, Formed, in_form, map_answer, WordsAsBytes, RunRefused, ZeroMaskRack, JumpsTo, SignedJump, SameOr, SameOrInto, LowerLimit, LowerLimits}
use Rattle.fips197.proofs.Keys.{is_key, isnt_key, has_key}
use Rattle.mode.proofs.Keys.{key_block_short, key_block-first}
use Rattle.mode.proofs.Rows.{is_whole}
use Rattle.mode.proofs.Passed.{has_16, sealed_lengths}
use Rattle.mode.proofs.Same.{same_true}
use Rattle.mode.proofs.ZeroMask.{key-not-zero}
use Rattle.mode.proofs.Demand2.{sealing_given, message_fits}
use Rattle.mode.proofs.Decisions.{outcome_given_bytes}

-- ---- what may be cut

-- every message that the call seals, under its key and IV, in any cut
pub message_cut : (t : Finish) (c : Cipher) (key iv message r : List ℕ) (room : ℕ) → (seal t c key iv message room).answer ≡ given r
    → Bytes key → Bytes iv → Bytes message → (pieces : List (List ℕ)) → Cut last pieces → concat pieces ≡ message → WellFormed (record { key = key; work = sealing t iv message; pieces = pieces })
unfolding Fits last_kind text_of
message_cut t c key iv message r room e bk bi bm pieces h p =
    let rows = (sealing_given t c key iv message r room e).0 in
    record {
      key_is = record { size = has_key key rows.0; bytes = bk };
      iv_bytes = (unfold iv_of in bi);
      text_bytes = bm;
      fits = (has_16 iv rows.1.0, message_fits message rows.1.1.0);
      cut = h;
      pieces_are = p;
    }

-- every record of a length that opening takes, genuine or not, in any cut of its ciphertext
pub record_cut : (t : Finish) (key sealed : List ℕ) → Key key → not_sealed t sealed ≡ false → Bytes sealed
    → (pieces : List (List ℕ)) → Cut middle pieces → concat pieces ≡ cipher_part t sealed → WellFormed (record { key = key; work = checking t sealed; pieces = pieces })
unfolding Fits last_kind text_of
record_cut t key sealed hk hs bs pieces h p =
    record {
      key_is = hk;
      iv_bytes = (unfold iv_of iv_part in (bytes_take 16 sealed bs));
      text_bytes = (unfold cipher_part in (bytes_take (length sealed - overhead t) (drop 16 sealed) (bytes_drop 16 sealed bs)));
      fits = sealed_lengths t sealed hs;
      cut = h;
      pieces_are = p;
    }

-- one piece; and a piece of whole blocks, empty or not, before any others
pub one_piece : (p : List ℕ) → Cut last (p ∷ [])
unfolding Cut
one_piece p = tt

pub one_aligned_piece : (p : List ℕ) → length p % 16 ≡ 0 → Cut middle (p ∷ [])
unfolding Cut
one_aligned_piece p h = h

pub one_piece_more : (kind : Kind) (p q : List ℕ) (ps : List (List ℕ)) → length p % 16 ≡ 0 → Cut kind (q ∷ ps) → Cut kind (p ∷ q ∷ ps)
unfolding Cut
one_piece_more middle p q ps h t = (h, t)
one_piece_more last p q ps h t = (h, t)

-- ---- which calls are allowed

module _ (xs : List Segment) where
  pub run_allowed : (i room : ℕ) → i < length xs → is_recorded (segment xs i) ≡ false → Allowed xs (run_at i room)
  unfolding Allowed
  run_allowed i room l e = (l, e)

  pub pair_allowed : (i : ℕ) → AllRecorded xs (i ∷ suc i ∷ []) → Allowed xs (join_pair i (suc i))
  unfolding Allowed
  pair_allowed i h = (h, inl refl)

  pub pair_apart_allowed : (i j : ℕ) → AllRecorded xs (i ∷ j ∷ []) → apart in_words (records_at xs (i ∷ j ∷ [])) ≡ true → Allowed xs (join_pair i j)
  unfolding Allowed
  pair_apart_allowed i j h e = (h, inr e)

  pub list_allowed : (i k : ℕ) → AllRecorded xs (consecutive i (suc k)) → Allowed xs (join_many (consecutive i (suc k)))
  unfolding Allowed
  list_allowed i k h = (h, inl (i, k, refl))

  pub empty_list_allowed : Allowed xs (join_many [])
  unfolding Allowed AllRecorded
  empty_list_allowed = (tt, inr (inl refl))

  pub list_apart_allowed : (is : List ℕ) → AllRecorded xs is → apart in_words (records_at xs is) ≡ true → Allowed xs (join_many is)
  unfolding Allowed
  list_apart_allowed is h e = (h, inr (inr e))

-- ---- the pair that demands 2 and 3 leave out

-- it is a key that lends zeros, and an IV that it encrypts to zero: no other
pub every_other_pair : (c : Cipher) → ZeroMask c → (key iv : List ℕ) → KeyLength key → length iv ≡ 16
    → ((key_block key ≡ zero_block) × (encrypt c key iv ≡ zero_block) → ⊥) → NonzeroMask c key iv
every_other_pair c z key iv hk hi h = by (zero_mask c key iv) refl
  where
    by : (t : Bool) → zero_mask c key iv ≡ t → zero_mask c key iv ≡ false
    by true e = absurd (h ((z.exactly key iv hk hi).0 e))
    by false e = e

-- the three that leave it out ask no more of a pair
pub sealed_else : (t : Finish) (c : Cipher) → Demand2a t c → (key iv message : List ℕ) (room : ℕ) → zero_mask c key iv ≡ false → KeyLength key → length iv ≡ 16
    → length message ≤ longest_message → length (sealed_record t c key iv message) ≤ room
    → Gives (seal t c key iv message room) (sealed_record t c key iv message) (sealed_record t c key iv message) room
sealed_else t c d = d.seals

pub checked_else : (t : Finish) (c : Cipher) → Demand2d t c → (key sealed : List ℕ) (room : ℕ) → zero_mask c key (iv_part sealed) ≡ false → KeyLength key → not_sealed t sealed ≡ false
    → UnbrokenCheck t c key sealed → (open_sealed t c key sealed room).answer ≡ refused 6 → ⊥
checked_else t c d key sealed room z hk hs u six = by ((d.lent_any key sealed room z hk hs).0 u)
  where
    answer : Answer (List ℕ)
    answer = (open_sealed t c key sealed room).answer

    not_six : (n : ℕ) → (n ≡ 6 → ⊥) → answer ≡ refused n → ⊥
    not_six n h s = let e : ◌≡◌ {A = Answer (List ℕ)} (refused n) (refused 6) = sym s ∙ six in h (cc)

    by : ((m : List ℕ) × (answer ≡ given m)) ⊎ ((answer ≡ refused 7) ⊎ (answer ≡ refused 5)) → ⊥
    by (inl g) = let e : refused 6 ≡ given g.0 = sym six ∙ g.1 in let z : ◌≡◌ {A = ℕ} 0 1 = cc in omega arith
    by (inr (inl s)) = not_six 7 (λ e. omega arith) s
    by (inr (inr s)) = not_six 5 (λ e. omega arith) s

pub cut_else : (c : Cipher) (m : Calls) → Demand3 c m → (s : Setting) → zero_mask c s.key (iv_of s.work) ≡ false → WellFormed s
    → (calls : List Call) → EachCall m s Allowed (start s) calls → Agrees c m s calls (after_all m s (start s) calls)
cut_else c m d = d

-- under it every call gives 10: whatever is lent, whatever the tag, and for an empty run at every block up to the limit
module _ (c : Cipher) (z : ZeroMask c) (key : List ℕ) (hk : Key key) (zeroed : key_block key ≡ zero_block) where
  abbrev iv₀ : List ℕ
  iv₀ = zero_mask_iv c key

  iv₀_long : length iv₀ ≡ 16
  iv₀_long = (z.one-iv key hk zeroed).0.long

  zero_mask_lem : zero_mask c key iv₀ ≡ true
  zero_mask_lem = (z.one-iv key hk zeroed).1

  pub seal_ten : (t : Finish) (message : List ℕ) (room : ℕ) → length message ≤ longest_message → Refuses (seal t c key iv₀ message room) 10 room
  seal_ten t message room h = z.of_seal t key iv₀ message room zero_mask_lem hk.size iv₀_long h

  pub open_ten : (t : Finish) (sealed : List ℕ) (room : ℕ) → not_sealed t sealed ≡ false → iv_part sealed ≡ iv₀ → Refuses (open_sealed t c key sealed room) 10 room
  open_ten t sealed room h e = z.of_open t key sealed room (rw e zero_mask_lem) hk.size h

  pub seal_run_ten : (first : ℕ) (kind : Kind) (bytes : List ℕ) (room : ℕ) → unaligned_run kind bytes ≡ false → first + length (blocks_of_run kind bytes) ≤ limit
      → Refuses (seal_run in_words c key iv₀ first kind bytes room) 10 room
  seal_run_ten first kind bytes room a h = z.of_seal_run key iv₀ first kind bytes room zero_mask_lem hk.size iv₀_long a h

  pub empty_run_ten : (first room : ℕ) → first ≤ limit
      → Refuses (seal_run in_words c key iv₀ first middle [] room) 10 room × (check_run in_words c key iv₀ first [] ≡ refused 10)
  unfolding unaligned_run unaligned blocks_of_run blocks_of first_blocks
  empty_run_ten first room h = (
    seal_run_ten first middle [] room refl (omega arith),
    z.of_check_run key iv₀ first [] zero_mask_lem hk.size iv₀_long refl (omega arith),
  )

  pub close_ten : (t : Finish) (r : RunRecord) (tag : List ℕ) → r.first ≡ 0 → 0 < r.count → r.count ≤ limit → length tag ≡ t.tag_length
      → (close in_words t c key iv₀ r ≡ refused 10) × (test in_words t c key iv₀ r tag ≡ refused 10)
  close_ten t r tag start some h size =
      let w = is_whole r start (λ e. omega arith) in (
        z.of_close t key iv₀ r zero_mask_lem hk.size iv₀_long (omega arith) w,
        z.of_test t key iv₀ r tag zero_mask_lem hk.size iv₀_long size (omega arith) w,
      )

-- such keys are the zero key of 16 bytes, and the keys of 32 bytes whose first 16 are zero, whatever the last 16 are
pub zero-key : Key zero_block × (key_block zero_block ≡ zero_block)
zero-key = (record { size = short refl; bytes = block-zero.bytes }, key_block_short zero_block refl)

pub zeros-first : (b : List ℕ) → Block b → Key (zero_block ++ b) × (key_block (zero_block ++ b) ≡ zero_block)
zeros-first b h = (
  record { size = long (length-append zero_block b ∙ ap (λ (n : ℕ). 16 + n) h.long); bytes = bytes_append zero_block b block-zero.bytes h.bytes },
  key_block-first zero_block b refl,
)

-- a key of 32 bytes whose first 16 are not zero has no such IV, whatever the last 16 are: zeros too
pub first-not-zero : (c : Cipher) (a b iv : List ℕ) → length a ≡ 16 → (a ≡ zero_block → ⊥) → NonzeroMask c (a ++ b) iv
first-not-zero c a b iv h n = by (same (key_block (a ++ b)) zero_block) refl
  where
    by : (t : Bool) → same (key_block (a ++ b)) zero_block ≡ t → zero_mask c (a ++ b) iv ≡ false
    by true e = absurd (n (sym (key_block-first a b h) ∙ same_true (key_block (a ++ b)) zero_block e))
    by false e = key-not-zero c (a ++ b) iv e

-- and so does every run on the rack
pub run_ten : (c : Cipher) → ZeroMaskRack c → (s : Setting) → zero_mask c s.key (iv_of s.work) ≡ true → WellFormed s
    → (i room : ℕ) → i < length (start s) → is_recorded (segment (start s) i) ≡ false → Refuses (run_outcome (calls_of c) s (start s) i room) 10 (room_of s.work room)
unfolding EachCall Allowed RunRefused
run_ten c rack s z wf i room h e = (rack s z wf (run_at i room ∷ []) ((h, e), tt)).0.0

-- under every other pair each call comes to what its other rows decide
module _ (t : Finish) (c : Cipher) (b : AsBefore c) (key iv : List ℕ) where
  pub seal_before : (message : List ℕ) (room : ℕ) → zero_mask c key iv ≡ false
      → let s = sealed_record t c key iv message in
      seal t c key iv message room
      ≡ outcome_by (decide ((1, not_key key) ∷ (2, not16 iv) ∷ (3, too_long message) ∷ (5, too_short room (length s)) ∷ []) s) s room
  unfolding without
  seal_before message room z = b.of_seal t key iv message room z

  pub open_before_lem : (sealed : List ℕ) (room : ℕ) → zero_mask c key (iv_part sealed) ≡ false
      → let message = or_empty (unpadded (plaintext_of t c key sealed)) in
      open_sealed t c key sealed room
      ≡ outcome_by
      (decide
      ((1, not_key key)
      ∷ (3, not_sealed t sealed)
      ∷ (6, not (same (unbroken_tag t c ciphertext key (iv_part sealed) (blocks_of (cipher_part t sealed))) (tag_part t sealed)))
      ∷ (7, not_padded (unpadded (plaintext_of t c key sealed)))
      ∷ (5, too_short room (length message))
      ∷ [])
      message) message room
  unfolding without open_rows_within
  open_before_lem sealed room z = b.of_open t key sealed room z

  pub seal_run_before : (first : ℕ) (kind : Kind) (bytes : List ℕ) (room : ℕ) → zero_mask c key iv ≡ false
      → let blocks = blocks_of_run kind bytes in
      seal_run in_words c key iv first kind bytes room
      ≡ outcome_by
      (decide
      ((1, not_key key)
      ∷ (2, not16 iv)
      ∷ (3, unaligned_run kind bytes)
      ∷ (4, beyond first (length blocks))
      ∷ (5, too_short room (16 * length blocks))
      ∷ [])
      (run_record in_words c plaintext key iv first blocks)) (pass_from c plaintext key iv first blocks).output room
  unfolding without
  seal_run_before first kind bytes room z = b.of_seal_run key iv first kind bytes room z

  pub check_run_before : (first : ℕ) (bytes : List ℕ) → zero_mask c key iv ≡ false
      → check_run in_words c key iv first bytes
      ≡ decide ((1, not_key key) ∷ (2, not16 iv) ∷ (3, unaligned bytes) ∷ (4, beyond first (length (blocks_of bytes))) ∷ [])
      (run_record in_words c ciphertext key iv first (blocks_of bytes))
  unfolding without
  check_run_before first bytes z = b.of_check_run key iv first bytes z

  pub close_before : (r : RunRecord) → zero_mask c key iv ≡ false
      → close in_words t c key iv r
      ≡ decide ((1, not_key key) ∷ (2, not16 iv) ∷ (4, beyond r.first r.count) ∷ (9, not_whole in_words r) ∷ []) (closing_tag in_words t c key iv r)
  unfolding without
  close_before r z = b.of_close t key iv r z

  pub test_before : (r : RunRecord) (tag : List ℕ) → zero_mask c key iv ≡ false
      → test in_words t c key iv r tag
      ≡ decide
      ((1, not_key key)
      ∷ (2, not16 iv)
      ∷ (3, not_tag t tag)
      ∷ (4, beyond r.first r.count)
      ∷ (9, not_whole in_words r)
      ∷ (6, not (same (closing_tag in_words t c key iv r) tag))
      ∷ [])
      tt
  unfolding without
  test_before r tag z = b.of_test t key iv r tag z

-- ---- the cipher, and what a key lends to step 1

-- all that is said of the cipher under a key, for a block
abbrev IsFips197 : Cipher → List ℕ → ℕ → ℕ → ℕ → List ℕ → Type 0
IsFips197 c key nk nr h block =
    (encrypt c key block ≡ cipher nr (round_keys nk nr key) block)
    × (c.second_half key (c.first_half key block) ≡ cipher nr (round_keys nk nr key) block)
    × (c.first_half_back key (c.second_half_back key block) ≡ inv_cipher nr (round_keys nk nr key) block)
    × (c.first_half key block ≡ after_round (round_keys nk nr key) block h)

fields : (c : Cipher) (key : List ℕ) (nk nr h : ℕ) → IsAes c key nk nr h → (block : List ℕ) → IsFips197 c key nk nr h block
fields c key nk nr h a block = (a.encrypts block, a.halves block, a.decrypts block, a.middle block)

pub aes_128 : (c : Cipher) → Aes128And256 c → (key block : List ℕ) → length key ≡ 16 → IsFips197 c key 4 10 5 block
aes_128 c a key block e = fields c key 4 10 5 (a.of_16 key e) block

pub aes_256 : (c : Cipher) → Aes128And256 c → (key block : List ℕ) → length key ≡ 32 → IsFips197 c key 8 14 7 block
aes_256 c a key block e = fields c key 8 14 7 (a.of_32 key e) block

-- a key of 16 bytes as it is, and one of 32 by its first 16, whatever the others are
pub lends_itself : (c : Cipher) → KeyInStepOne c → (key iv : List ℕ) → length key ≡ 16
    → let sum = xor_bytes (encrypt c key (xor_bytes iv key)) key in
    start_mask c key iv ≡ cond (same sum zero_block) key sum
lends_itself c k key iv e = k.of_16 key iv e

pub lends_first : (c : Cipher) → KeyInStepOne c → (a b iv : List ℕ) → length a ≡ 16 → length b ≡ 16
    → let sum = xor_bytes (encrypt c (a ++ b) (xor_bytes iv a)) a in
    start_mask c (a ++ b) iv ≡ cond (same sum zero_block) a sum
lends_first c k a b iv ha hb = k.of_32 a b iv ha hb

-- ---- the finishes

pub tags_of : (c : Cipher) → TwoFinishes c → (key a mask : List ℕ)
    → (by_cipher.tag_from c key a mask ≡ xor_bytes (encrypt c key (xor_bytes a mask)) a) × (by_sha1.tag_from c key a mask ≡ sha1 (key ++ a ++ mask))
tags_of c f key a mask = (f.by-cipher key a mask, f.by-sha1 key a mask)

pub tags_long : (c : Cipher) → TwoFinishes c → (key a mask : List ℕ) → KeyLength key → length a ≡ 16 → length mask ≡ 16
    → (length (by_cipher.tag_from c key a mask) ≡ 16) × (length (by_sha1.tag_from c key a mask) ≡ 20)
tags_long c f key a mask hk ha hm = (f.cipher-long.1.tag_long key a mask hk ha hm ∙ f.cipher-long.0, f.sha1-long.1.tag_long key a mask hk ha hm ∙ f.sha1-long.0)

-- ---- row 3 of a sealed record and of a tag, by their lengths

unfoldable pub record_refused : Finish → ℕ → Bool
record_refused t n = ltb n (16 + overhead t) || (ltb (longest_sealed t) n || not (eqb ((n - overhead t) % 16) 0))

pub by_length : (t : Finish) (sealed tag : List ℕ) → (not_sealed t sealed ≡ record_refused t (length sealed)) × (not_tag t tag ≡ not (eqb (length tag) t.tag_length))
unfolding not_sealed_within not_tag record_refused
by_length t sealed tag = (refl, refl)

-- 48 to 16,777,248, a multiple of 16; 52 to 16,777,252, 36 over a multiple of 16
pub records_taken : (map (record_refused by_cipher) (48 ∷ 64 ∷ 16777248 ∷ []) ≡ false ∷ false ∷ false ∷ []) × (map (record_refused by_sha1) (52 ∷ 68 ∷ 16777252 ∷ []) ≡ false ∷ false ∷ false ∷ [])
unfolding record_refused
records_taken = (refl, refl)

pub records_refused : (map (record_refused by_cipher) (32 ∷ 47 ∷ 49 ∷ 52 ∷ 16777249 ∷ 16777264 ∷ []) ≡ replicate 6 true)
    × (map (record_refused by_sha1) (36 ∷ 48 ∷ 51 ∷ 53 ∷ 64 ∷ 16777253 ∷ 16777268 ∷ []) ≡ replicate 7 true)
unfolding record_refused
records_refused = (refl, refl)

-- ---- the limit

-- today's numbers; the longest text to SHA-1 is what it was
pub numbers : (limit ≡ 1048576) × (longest_message ≡ 16777215) × (map longest_sealed (by_cipher ∷ by_sha1 ∷ []) ≡ 16777248 ∷ 16777252 ∷ []) × (longest_text ≡ 64032)
numbers = (refl, refl, refl, refl)

-- those of before
pub numbers_before : (longest_message_within 4000 ≡ 63999) × (map (longest_sealed_within 4000) (by_cipher ∷ by_sha1 ∷ []) ≡ 64032 ∷ 64036 ∷ [])
numbers_before = (refl, refl)

-- where either limit ends: one block more is beyond it, as a block of a run, of a record and of a jump either way
abbrev blocks_beyond : ℕ → ℕ → List Bool
blocks_beyond n k = beyond_within n k 0 ∷ beyond_within n 0 k ∷ any_beyond_within n in_bytes (in_bytes.make k 0 [] ∷ []) ∷ too_far_within n (pos k) ∷ too_far_within n (neg_ℤ (pos k)) ∷ []

pub last_block : (blocks_beyond limit 1048576 ≡ replicate 5 false) × (blocks_beyond 4000 4000 ≡ replicate 5 false)
unfolding beyond_within any_beyond_within too_far_within
last_block = (refl, refl)

pub one_block_more : (blocks_beyond limit 1048577 ≡ replicate 5 true) × (blocks_beyond 4000 4001 ≡ replicate 5 true)
unfolding beyond_within any_beyond_within too_far_within
one_block_more = (refl, refl)

-- a condition does not hold and fail
not_both : {b : Bool} → b ≡ false → b ≡ true → ⊥
not_both e g = let y : ◌≡◌ {A = ℕ} 0 1 = (let z = sym e ∙ g in cc) in omega arith

-- either way of saying what a lower limit leaves as it is: what it did not refuse with that number, and what is not longer
pub not_refused : {A : Type 0} {longer : Type 0} (k : ℕ) (a b : Answer A) → SameOr longer k a b → (a ≡ refused k → ⊥) → a ≡ b
not_refused k a b (inl e) h = e
not_refused k a b (inr e) h = absurd (h e.1)

pub not_longer : {A : Type 0} (longer : Type 0) (k : ℕ) (a b : Answer A) → SameOr longer k a b → (longer → ⊥) → a ≡ b
not_longer longer k a b (inl e) h = e
not_longer longer k a b (inr e) h = absurd (h e.0)

pub not_longer_into : {A : Type 0} (longer : Type 0) (k room : ℕ) (o p : Outcome A) → SameOrInto longer k room o p → (longer → ⊥) → o ≡ p
not_longer_into longer k room o p (inl e) h = e
not_longer_into longer k room o p (inr e) h = absurd (h e.0)

-- Every lower limit is compared with, and what it reaches comes to the same now, in each call.
module _ (c : Cipher) (d : LowerLimits c) (n : ℕ) (h : n ≤ limit) where
  pub every_lower : LowerLimit c n
  every_lower = d n h

  pub message_reached : (t : Finish) (key iv message : List ℕ) (room : ℕ) → length message ≤ 16 * n - 1 → seal_within t c n key iv message room ≡ seal t c key iv message room
  message_reached t key iv message room l = not_longer_into (16 * n - 1 < length message) 3 room _ _ ((d n h).of_seal t key iv message room) (λ g. omega (arith, g, l))

  pub record_reached : (t : Finish) (key sealed : List ℕ) (room : ℕ) → length sealed ≤ 16 * n + overhead t → open_within t c n key sealed room ≡ open_sealed t c key sealed room
  record_reached t key sealed room l = not_longer_into (16 * n + overhead t < length sealed) 3 room _ _ ((d n h).of_open t key sealed room) (λ g. omega (arith, g, l))

  pub run_reached : (key iv : List ℕ) (first : ℕ) (kind : Kind) (bytes : List ℕ) (room : ℕ) → first + length (blocks_of_run kind bytes) ≤ n
      → seal_run_within in_words c n key iv first kind bytes room ≡ seal_run in_words c key iv first kind bytes room
  run_reached key iv first kind bytes room l =
      not_longer_into (n < first + length (blocks_of_run kind bytes)) 4 room _ _ ((d n h).of_seal_run key iv first kind bytes room) (λ g. omega (arith, g, l))

  pub check_reached : (key iv : List ℕ) (first : ℕ) (bytes : List ℕ) → first + length (blocks_of bytes) ≤ n → check_run_within in_words c n key iv first bytes ≡ check_run in_words c key iv first bytes
  check_reached key iv first bytes l = not_longer (n < first + length (blocks_of bytes)) 4 _ _ ((d n h).of_check_run key iv first bytes) (λ g. omega (arith, g, l))

  pub pair_reached : (l r : RunRecord) → any_beyond_within n in_words (l ∷ r ∷ []) ≡ false → join_two_within in_words n l r ≡ join_two in_words l r
  pair_reached l r e = not_longer (any_beyond_within n in_words (l ∷ r ∷ []) ≡ true) 4 _ _ ((d n h).of_join l r) (λ g. not_both e g)

  pub list_reached : (rs : List RunRecord) → any_beyond_within n in_words rs ≡ false → join_list_within in_words n rs ≡ join_list in_words rs
  list_reached rs e = not_longer (any_beyond_within n in_words rs ≡ true) 4 _ _ ((d n h).of_join_list rs) (λ g. not_both e g)

  pub closing_reached : (t : Finish) (key iv : List ℕ) (r : RunRecord) (tag : List ℕ) → r.first + r.count ≤ n
      → (close_within in_words t c n key iv r ≡ close in_words t c key iv r) × (test_within in_words t c n key iv r tag ≡ test in_words t c key iv r tag)
  closing_reached t key iv r tag l = (
    not_longer (n < r.first + r.count) 4 _ _ ((d n h).of_close t key iv r) (λ g. omega (arith, g, l)),
    not_longer (n < r.first + r.count) 4 _ _ ((d n h).of_test t key iv r tag) (λ g. omega (arith, g, l)),
  )

  pub jump_reached : (mask : List ℕ) (distance : ℤ) (room : ℕ) → nat_abs distance ≤ n → jump_mask_within n mask distance room ≡ jump_mask mask distance room
  jump_reached mask distance room l = not_longer_into (n < nat_abs distance) 4 room _ _ ((d n h).of_jump mask distance room) (λ g. omega (arith, g, l))

-- so a list that was sealed has the bytes that it would get now, and a longer one gets 3 from the old machine
module _ (c : Cipher) (d : LowerLimits c) where
  pub stored : (t : Finish) (key iv message r : List ℕ) (room : ℕ) → (seal_within t c 4000 key iv message room).answer ≡ given r → Gives (seal t c key iv message room) r r room
  stored t key iv message r room e = by ((d 4000 (omega arith)).of_seal t key iv message room)
    where
      by : SameOrInto (63999 < length message) 3 room (seal_within t c 4000 key iv message room) (seal t c key iv message room) → Gives (seal t c key iv message room) r r room
      by (inl p) = subst (λ (o : Outcome (List ℕ)). Gives o r r room) p (outcome_given_bytes _ _ r room e).1
      by (inr q) = absurd (let z = sym q.1.answers ∙ e in let y : ◌≡◌ {A = ℕ} 0 1 = cc in omega arith)

  pub longer_list : (t : Finish) (key sealed : List ℕ) (room : ℕ) → KeyLength key → 64000 + overhead t < length sealed → Refuses (open_within t c 4000 key sealed room) 3 room
  longer_list t key sealed room hk l = (d 4000 (omega arith)).longer_record t key sealed room hk l

-- ---- row 1

-- it lets through keys of 16 bytes and of 32, and none of any other length
pub keys_taken : (key : List ℕ) → (not_key key ≡ false) ↔ KeyLength key
keys_taken key = (has_key key, is_key key)

pub other_lengths : (key : List ℕ) → (KeyLength key → ⊥) → not_key key ≡ true
other_lengths key h = isnt_key key (λ e. h (short e)) (λ e. h (long e))

abbrev row_one : ℕ → Bool
row_one n = not_key (zeros n)

pub lengths_taken : (row_one 16 ≡ false) × (row_one 32 ≡ false)
unfolding not_key
lengths_taken = (refl, refl)

pub lengths_refused : (row_one 0 ≡ true) × (row_one 15 ≡ true) × (row_one 17 ≡ true) × (row_one 24 ≡ true) × (row_one 31 ≡ true) × (row_one 33 ≡ true) × (row_one 48 ≡ true)
unfolding not_key
lengths_refused = (refl, refl, refl, refl, refl, refl, refl)

-- ---- the signed jump

-- there and back, whichever is first, at every number of blocks up to the limit
pub forward_then_back : (c : Cipher) → SignedJump c → (mask : List ℕ) (n : ℕ) → Block mask → n ≤ limit
    → (m : List ℕ) × (JumpsTo mask (pos n) m × JumpsTo m (neg_ℤ (pos n)) mask)
forward_then_back c s mask n h r = s.undone mask (pos n) h r

pub back_then_forward : (c : Cipher) → SignedJump c → (mask : List ℕ) (n : ℕ) → Block mask → n ≤ limit
    → (m : List ℕ) × (JumpsTo mask (neg_ℤ (pos n)) m × JumpsTo m (pos n) mask)
back_then_forward c s mask n h r =
    subst (λ (d : ℤ). (m : List ℕ) × (JumpsTo mask (neg_ℤ (pos n)) m × JumpsTo m d mask)) (neg_ℤ-neg_ℤ (pos n))
    (s.undone mask (neg_ℤ (pos n)) h (rw (abs_neg (pos n)) r))

-- two ways back, one after the other, and back and forward, are added
pub back_twice : (c : Cipher) → SignedJump c → (mask : List ℕ) (n k : ℕ) → Block mask → suc (suc (n + k)) ≤ limit
    → (m : List ℕ) × (l : List ℕ) × (JumpsTo mask (negsuc n) m × JumpsTo m (negsuc k) l × JumpsTo mask (negsuc (suc (n + k))) l)
back_twice c s mask n k h r = s.adds mask (negsuc n) (negsuc k) h (omega arith) (omega arith) r

-- the last distances in range, and the first beyond
pub range : (too_far (pos limit) ≡ false) × (too_far (neg_ℤ (pos limit)) ≡ false) × (too_far (pos (suc limit)) ≡ true) × (too_far (negsuc limit) ≡ true)
unfolding too_far_within
range = (refl, refl, refl, refl)

-- ---- opening into the space that the list needs

module _ (t : Finish) (c : Cipher) where
  -- an output exactly as long as the message is enough; a byte less gets 5, whether or not it holds the ciphertext
  pub exact_room : Demand2b t c → (key sealed m : List ℕ) → Key key → SealedFrom t c key sealed m → Gives (open_sealed t c key sealed (length m)) m m (length m)
  exact_room d key sealed m hk f = d.all_sealed key sealed m (length m) hk f (omega arith)

  pub one_byte_short : Demand2b t c → (key sealed m : List ℕ) (b : ℕ) → Key key → SealedFrom t c key sealed (b ∷ m) → Refuses (open_sealed t c key sealed (length m)) 5 (length m)
  one_byte_short d key sealed m b hk f = d.no_room key sealed (b ∷ m) (length m) hk f (omega arith)

  -- a record that nothing was sealed to is not said to need more output
  pub short_of_something : Demand2b t c → (key sealed : List ℕ) (room : ℕ) → Key key → Bytes sealed → ((m : List ℕ) → SealedFrom t c key sealed m → ⊥)
      → (open_sealed t c key sealed room).answer ≡ refused 5 → ⊥
  short_of_something d key sealed room hk hs h e = let n = d.only_no_room key sealed room hk hs e in h n.0 n.1.0

  -- with as much output as there is ciphertext, or more, opening is decided by document 01's rows, 5 among them as it stands there
  pub document_rows : OldSize t c → (key sealed : List ℕ) (room : ℕ) → length (cipher_part t sealed) ≤ room
      → let message = or_empty (unpadded (plaintext_of t c key sealed)) in
      open_sealed t c key sealed room
      ≡ outcome_by
      (decide
      ((1, not_key key)
      ∷ (3, not_sealed t sealed)
      ∷ (10, zero_mask c key (iv_part sealed))
      ∷ (5, too_short room (length (cipher_part t sealed)))
      ∷ (6, not (same (unbroken_tag t c ciphertext key (iv_part sealed) (blocks_of (cipher_part t sealed))) (tag_part t sealed)))
      ∷ (7, not_padded (unpadded (plaintext_of t c key sealed)))
      ∷ [])
      message) message room
  unfolding open_before open_rows_before
  document_rows s = s

  pub checked_by_opening : Demand2d t c → (key sealed : List ℕ) → NonzeroMask c key (iv_part sealed) → KeyLength key → not_sealed t sealed ≡ false
      → let o = open_sealed t c key sealed (length (cipher_part t sealed)) in
      UnbrokenCheck t c key sealed ↔ (((m : List ℕ) × (o.answer ≡ given m)) ⊎ (o.answer ≡ refused 7))
  checked_by_opening d key sealed nz hk hs = d.lent_enough key sealed (length (cipher_part t sealed)) nz hk hs (omega arith)

-- ---- the table's order

abbrev document_order : List ℕ
document_order = 1 ∷ 2 ∷ 3 ∷ 4 ∷ 8 ∷ 9 ∷ 10 ∷ 5 ∷ 6 ∷ 7 ∷ []

-- ticket P6's
abbrev ticket_order : List ℕ
ticket_order = 1 ∷ 3 ∷ 10 ∷ 6 ∷ 7 ∷ 5 ∷ []

pub rows_of : List ℕ → List (ℕ × Bool)
rows_of [] = []
rows_of (n ∷ ns) = (n, true) ∷ rows_of ns

-- rows with all the numbers, in document 01's order, and in the ticket's
pub document_order_lem : (in_order table_order (rows_of document_order) ≡ true) × (in_order open_order (rows_of ticket_order) ≡ true)
unfolding in_order rows_of
document_order_lem = (refl, refl)

-- no number of the list may stand before n in this order, nor n twice
none_before : List ℕ → ℕ → List ℕ → Bool
none_before order n [] = true
none_before order n (k ∷ ks) = cond (in_order order (rows_of (k ∷ n ∷ []))) false (none_before order n ks)

pub no_pair_turned : List ℕ → List ℕ → Bool
no_pair_turned order [] = true
no_pair_turned order (n ∷ ns) = cond (none_before order n (n ∷ ns)) (no_pair_turned order ns) false

pub no_other_order : (no_pair_turned table_order document_order ≡ true) × (no_pair_turned open_order ticket_order ≡ true)
unfolding in_order rows_of none_before no_pair_turned
no_other_order = (refl, refl)

-- a number that the table does not have stands nowhere
pub not_in_table : (in_order table_order (rows_of (0 ∷ [])) ≡ false) × (in_order open_order (rows_of (0 ∷ [])) ≡ false)
unfolding in_order rows_of
not_in_table = (refl, refl)

pub not-after-table : (in_order table_order (rows_of (7 ∷ 11 ∷ [])) ≡ false) × (in_order open_order (rows_of (5 ∷ 11 ∷ [])) ≡ false)
unfolding in_order rows_of
not-after-table = (refl, refl)

-- demand 1 bounds the numbers to the table's
pub only_ten : (n : ℕ) → InTable n → (n ≡ 0 → ⊥) × (n < 11)
only_ten n h = (λ e. omega arith, omega arith)

-- ---- records in words

module _ (c : Cipher) (w : WordsAsBytes c) where
  -- a refusal is the same refusal, and what is given is the same record in words
  pub same-refusal : (a : Answer ByteRecord) (n : ℕ) → a ≡ refused n → map_answer (in_form in_bytes in_words) a ≡ refused n
  unfolding map_answer
  same-refusal a n e = ap (map_answer (in_form in_bytes in_words)) e

  pub same_given : (a : Answer ByteRecord) (r : ByteRecord) → a ≡ given r
      → map_answer (in_form in_bytes in_words) a ≡ given (record { first = r.first; count = r.count; preauthenticator = words_of r.preauthenticator })
  unfolding map_answer
  same_given a r e = ap (map_answer (in_form in_bytes in_words)) e

  -- sealing a run, with every field of what it comes to
  pub sealed_as_in_bytes : (key iv : List ℕ) (first : ℕ) (kind : Kind) (bytes : List ℕ) (room : ℕ) → Bytes key → Bytes iv → Bytes bytes
      → let o = seal_run in_words c key iv first kind bytes room in
      let q = seal_run in_bytes c key iv first kind bytes room in
      (o.answer ≡ map_answer (in_form in_bytes in_words) q.answer) × (o.reported ≡ q.reported) × (o.output ≡ q.output)
  sealed_as_in_bytes key iv first kind bytes room hk hv hb =
      let e = w.in-words.of_seal_run key iv first kind bytes room hk hv hb in
      (ap (λ (o : Outcome RunRecord). o.answer) e, ap (λ (o : Outcome RunRecord). o.reported) e, ap (λ (o : Outcome RunRecord). o.output) e)

  -- any two records in words are joined as their bytes are, and any one is closed as its bytes are
  made : (r : RunRecord) → Proper r.preauthenticator → in_form in_bytes in_words (in_form in_words in_bytes r) ≡ r
  made r h = (w.words_formed r h).is_made

  held : (r : RunRecord) → Proper r.preauthenticator → Formed in_bytes (in_form in_words in_bytes r)
  held r h = w.bytes_formed (in_form in_words in_bytes r) (w.words_formed r h).is_block

  pub joined_as_in_bytes : (l r : RunRecord) → Proper l.preauthenticator → Proper r.preauthenticator
      → join_two in_words l r ≡ map_answer (in_form in_bytes in_words) (join_two in_bytes (in_form in_words in_bytes l) (in_form in_words in_bytes r))
  joined_as_in_bytes l r hl hr =
      sym (ap₂ (join_two in_words) (made l hl) (made r hr)) ∙ w.in-words.of_join (in_form in_words in_bytes l) (in_form in_words in_bytes r) (held l hl) (held r hr)

  pub closed_as_in_bytes : (t : Finish) (key iv : List ℕ) (r : RunRecord) → Proper r.preauthenticator → close in_words t c key iv r ≡ close in_bytes t c key iv (in_form in_words in_bytes r)
  closed_as_in_bytes t key iv r h = sym (ap (close in_words t c key iv) (made r h)) ∙ w.in-words.of_close t key iv (in_form in_words in_bytes r) (held r h)

  -- two different pairs of words have different bytes, and two different blocks different words
  pub words-apart : (v x : Words) → Proper v → Proper x → bytes_of v ≡ bytes_of x → v ≡ x
  words-apart v x hv hx e = sym (w.one_form.of_words v hv).1 ∙ ap words_of e ∙ (w.one_form.of_words x hx).1

  pub blocks-apart : (a b : List ℕ) → Block a → Block b → words_of a ≡ words_of b → a ≡ b
  blocks-apart a b ha hb e = sym (w.one_form.of_bytes a ha).1 ∙ ap bytes_of e ∙ (w.one_form.of_bytes b hb).1
