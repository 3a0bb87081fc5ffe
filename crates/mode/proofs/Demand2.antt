-- DEMAND 2 (a) and (b), proved; and the pre-authenticator that checking gives is the one that sealing gives.
use mathlib.Core.Path.{◌≡◌, refl, sym, ap, ap₂, subst, ◌∙◌}
use mathlib.Core.List.{List, [], ◌∷◌, ◌++◌}
use mathlib.Core.Option.{some}
use mathlib.Core.Bool.{true, false}
use Prim.Native.Nat.{ℕ, suc, ◌+◌, ◌*◌, ◌-◌, ◌/◌, ◌%◌, ◌≤◌}
use native.Mathlib.Nat.{le_of_eq}
use native.Mathlib.Omega.{arith}
use lib.ListN.{length, drop, replicate}
use lib.Seq.{length-take-le}
use borrow.Author.Tests.{ltb-false, le-ltb}
use Rattle.blocks.specs.Bytes.{xor_bytes, Bytes, Block, same, concat}
use Rattle.blocks.proofs.Chunks.{bytes_take, bytes_drop}
use Rattle.blocks.proofs.XorBytes.{block-xor, xor_bytes_cancel}
use Rattle.gf128.specs.Gf128.{times_x, jump}
use Rattle.gf128.proofs.TimesX.{block-times_x}
use Rattle.fips197.specs.Aes.{KeyLength, Key}
use Rattle.mode.specs.Mode.{Cipher, Lawful, Finish, LawfulFinish, overhead, plaintext, ciphertext, zero_block, start_mask, middletext, written, pass, unbroken, unbroken_tag, blocks_of, padded, iv_part, cipher_part, tag_part, sealed_record}
use Rattle.mode.specs.Table.{given, decide, NoneHolds, too_long, too_long_within, not_sealed, zero_mask, longest_message, longest_sealed}
use Rattle.mode.specs.Calls.{unpadded, decrypted, plaintext_of, message_of, open_rows, open_sealed, seal, seal_rows}
use Rattle.mode.specs.Parallel.{Fits}
use Rattle.mode.specs.Demands.{Gives, NonzeroMask, SealedFrom, Demand2a, Demand2b, OpensSealed}
use Rattle.fips197.proofs.Keys.{is_key}
use Rattle.mode.proofs.Rows.{not_too_long}
use Rattle.mode.proofs.Decisions.{given_rows, passed_rows, outcome_answer, outcome_gives, outcome_given_bytes}
use Rattle.mode.proofs.SealedLength.{unbroken_tag_long, sealed_length_lem}
use Rattle.mode.proofs.Laws.{pass_mask}
use Rattle.mode.proofs.Blocks.{length-padded, count_middle}
use Rattle.mode.proofs.Runs.{is16}
use Rattle.mode.proofs.Same.{same_true, same_self}
use Rattle.mode.proofs.Demand3.{cipher-length}
use Rattle.mode.proofs.Passed.{sealed_lengths, lengths_sealed}
use Rattle.mode.proofs.Opened.{Found, given_found, refused_found, found_given, found_refused}
use Rattle.mode.proofs.Halves.{first_block, second_block, first_back, second_back, start-block}
use Rattle.mode.proofs.Bytes.{bytes_left, bytes_padded, AllBlocks, all_blocks-long, bytes_concat, length-concat, good_blocks, concat-blocks, blocks-concat, parts_of, parts_whole, unpad_sound, unpad_complete}

-- ---- blocks sealed and opened

module _ (c : Cipher) (laws : Lawful c) (key : List ℕ) (kb : Key key) where
  unfoldable pub cipher_block : List ℕ → List ℕ → List ℕ
  cipher_block mask b = xor_bytes (c.second_half key (c.first_half key (xor_bytes b mask))) mask

  pub plain_block : List ℕ → List ℕ → List ℕ
  plain_block mask b = xor_bytes (c.first_half_back key (c.second_half_back key (xor_bytes b mask))) mask

  unfoldable pub sealed_blocks : List (List ℕ) → List ℕ → List (List ℕ)
  sealed_blocks [] mask = []
  sealed_blocks (b ∷ bs) mask = cipher_block mask b ∷ sealed_blocks bs (times_x mask)

  opened_blocks : List (List ℕ) → List ℕ → List (List ℕ)
  opened_blocks [] mask = []
  opened_blocks (b ∷ bs) mask = plain_block mask b ∷ opened_blocks bs (times_x mask)

  cancel : (a k : List ℕ) → Block a → Block k → xor_bytes (xor_bytes a k) k ≡ a
  cancel a k ha hk = xor_bytes_cancel a k (ha.long ∙ sym hk.long)

  -- the middletext of a ciphertext block is the one that it was made from
  middle_back : (mask b : List ℕ) → Block mask → Block b → c.second_half_back key (xor_bytes (cipher_block mask b) mask) ≡ c.first_half key (xor_bytes b mask)
  unfolding cipher_block
  middle_back mask b hm hb =
      let t = first_block c laws key kb (xor_bytes b mask) (block-xor b mask hb hm) in
      ap (c.second_half_back key) (cancel (c.second_half key (c.first_half key (xor_bytes b mask))) mask (second_block c laws key kb (c.first_half key (xor_bytes b mask)) t) hm)
      ∙ laws.second_half_undone key (c.first_half key (xor_bytes b mask)) kb t

  pub plain-cipher : (mask b : List ℕ) → Block mask → Block b → plain_block mask (cipher_block mask b) ≡ b
  unfolding plain_block
  plain-cipher mask b hm hb =
      ap (λ (t : List ℕ). xor_bytes (c.first_half_back key t) mask) (middle_back mask b hm hb)
      ∙ ap (λ (t : List ℕ). xor_bytes t mask) (laws.first_half_undone key (xor_bytes b mask) kb (block-xor b mask hb hm))
      ∙ cancel b mask hb hm

  cipher-plain : (mask b : List ℕ) → Block mask → Block b → cipher_block mask (plain_block mask b) ≡ b
  unfolding plain_block cipher_block
  cipher-plain mask b hm hb =
      let u = second_back c laws key kb (xor_bytes b mask) (block-xor b mask hb hm) in
      let v = first_back c laws key kb (c.second_half_back key (xor_bytes b mask)) u in
      ap (λ (t : List ℕ). xor_bytes (c.second_half key (c.first_half key t)) mask)
      (cancel (c.first_half_back key (c.second_half_back key (xor_bytes b mask))) mask v hm)
      ∙ ap (λ (t : List ℕ). xor_bytes (c.second_half key t) mask) (laws.first_half_back_undone key (c.second_half_back key (xor_bytes b mask)) kb u)
      ∙ ap (λ (t : List ℕ). xor_bytes t mask) (laws.second_half_back_undone key (xor_bytes b mask) kb (block-xor b mask hb hm))
      ∙ cancel b mask hb hm

  pub sealed_good : (bs : List (List ℕ)) (mask : List ℕ) → AllBlocks bs → Block mask → AllBlocks (sealed_blocks bs mask)
  unfolding sealed_blocks cipher_block
  sealed_good [] mask h hm = tt
  sealed_good (b ∷ bs) mask h hm = (
    block-xor (c.second_half key (c.first_half key (xor_bytes b mask))) mask
        (second_block c laws key kb (c.first_half key (xor_bytes b mask)) (first_block c laws key kb (xor_bytes b mask) (block-xor b mask h.0 hm))) hm,
    sealed_good bs (times_x mask) h.1 (block-times_x mask hm.long),
  )

  opened_good : (bs : List (List ℕ)) (mask : List ℕ) → AllBlocks bs → Block mask → AllBlocks (opened_blocks bs mask)
  unfolding opened_blocks plain_block
  opened_good [] mask h hm = tt
  opened_good (b ∷ bs) mask h hm = (
    block-xor (c.first_half_back key (c.second_half_back key (xor_bytes b mask))) mask
        (first_back c laws key kb (c.second_half_back key (xor_bytes b mask)) (second_back c laws key kb (xor_bytes b mask) (block-xor b mask h.0 hm))) hm,
    opened_good bs (times_x mask) h.1 (block-times_x mask hm.long),
  )

  opened_sealed : (bs : List (List ℕ)) (mask : List ℕ) → AllBlocks bs → Block mask → opened_blocks (sealed_blocks bs mask) mask ≡ bs
  unfolding sealed_blocks opened_blocks
  opened_sealed [] mask h hm = refl
  opened_sealed (b ∷ bs) mask h hm =
      ap₂ (λ (x : List ℕ) (y : List (List ℕ)). x ∷ y) (plain-cipher mask b hm h.0) (opened_sealed bs (times_x mask) h.1 (block-times_x mask hm.long))

  sealed_opened : (bs : List (List ℕ)) (mask : List ℕ) → AllBlocks bs → Block mask → sealed_blocks (opened_blocks bs mask) mask ≡ bs
  unfolding sealed_blocks opened_blocks
  sealed_opened [] mask h hm = refl
  sealed_opened (b ∷ bs) mask h hm =
      ap₂ (λ (x : List ℕ) (y : List (List ℕ)). x ∷ y) (cipher-plain mask b hm h.0) (sealed_opened bs (times_x mask) h.1 (block-times_x mask hm.long))

  pub length_sealed : (bs : List (List ℕ)) (mask : List ℕ) → length (sealed_blocks bs mask) ≡ length bs
  unfolding sealed_blocks
  length_sealed [] mask = refl
  length_sealed (b ∷ bs) mask = ap suc (length_sealed bs (times_x mask))

  length_opened : (bs : List (List ℕ)) (mask : List ℕ) → length (opened_blocks bs mask) ≡ length bs
  unfolding opened_blocks
  length_opened [] mask = refl
  length_opened (b ∷ bs) mask = ap suc (length_opened bs (times_x mask))

  pub output_is : (bs : List (List ℕ)) (mask p : List ℕ) → (pass c plaintext key bs mask p).output ≡ concat (sealed_blocks bs mask)
  unfolding pass written middletext sealed_blocks cipher_block concat
  output_is [] mask p = refl
  output_is (b ∷ bs) mask p =
      ap (λ (r : List ℕ). cipher_block mask b ++ r) (output_is bs (times_x mask) (xor_bytes (times_x p) (c.first_half key (xor_bytes b mask))))

  decrypted_is : (bs : List (List ℕ)) (mask : List ℕ) → decrypted c key bs mask ≡ concat (opened_blocks bs mask)
  unfolding decrypted middletext opened_blocks plain_block concat
  decrypted_is [] mask = refl
  decrypted_is (b ∷ bs) mask = ap (λ (r : List ℕ). plain_block mask b ++ r) (decrypted_is bs (times_x mask))

  -- checking gives the pre-authenticator that sealing gives
  pub same_preauthenticator : (bs : List (List ℕ)) (mask p : List ℕ) → AllBlocks bs → Block mask
      → (pass c ciphertext key (sealed_blocks bs mask) mask p).preauthenticator ≡ (pass c plaintext key bs mask p).preauthenticator
  unfolding pass middletext sealed_blocks
  same_preauthenticator [] mask p h hm = refl
  same_preauthenticator (b ∷ bs) mask p h hm =
      ap (λ (t : List ℕ). (pass c ciphertext key (sealed_blocks bs (times_x mask)) (times_x mask) (xor_bytes (times_x p) t)).preauthenticator) (middle_back mask b hm h.0)
      ∙ same_preauthenticator bs (times_x mask) (xor_bytes (times_x p) (c.first_half key (xor_bytes b mask))) h.1 (block-times_x mask hm.long)

  module _ (iv : List ℕ) (ib : Block iv) where
    abbrev mask0 : List ℕ
    mask0 = start_mask c key iv

    same_tag : (t : Finish) (bs : List (List ℕ)) → AllBlocks bs → unbroken_tag t c ciphertext key iv (sealed_blocks bs mask0) ≡ unbroken_tag t c plaintext key iv bs
    unfolding unbroken_tag unbroken
    same_tag t bs h =
        ap₂ (t.tag_from c key) (same_preauthenticator bs mask0 zero_block h (start-block c laws key kb iv ib))
        (pass_mask c laws ciphertext key kb.size (sealed_blocks bs mask0) mask0 zero_block
        ∙ ap (λ (n : ℕ). jump n mask0) (length_sealed bs mask0)
        ∙ sym (pass_mask c laws plaintext key kb.size bs mask0 zero_block))

    unbroken_is : (bs : List (List ℕ)) → (unbroken c plaintext key iv bs).output ≡ concat (sealed_blocks bs mask0)
    unfolding unbroken
    unbroken_is bs = output_is bs mask0 zero_block

-- ---- sealing

-- what is known where a record is given
pub sealing_given : (t : Finish) (c : Cipher) (key iv message r : List ℕ) (room : ℕ) → (seal t c key iv message room).answer ≡ given r
    → NoneHolds (seal_rows t c key iv message room) × (sealed_record t c key iv message ≡ r)
unfolding seal
sealing_given t c key iv message r room e =
    let s = sealed_record t c key iv message in
    given_rows (seal_rows t c key iv message room) s r (sym (outcome_answer (decide (seal_rows t c key iv message room) s) s room) ∙ e)

pub message_fits : (message : List ℕ) → too_long message ≡ false → length message ≤ longest_message
unfolding too_long_within
message_fits message e = ltb-false longest_message (length message) e

module _ (t : Finish) (c : Cipher) (key iv message : List ℕ) (nz : NonzeroMask c key iv) (hk : KeyLength key) (hi : length iv ≡ 16) (hm : length message ≤ longest_message) where
  seal_gives : (room : ℕ) → length (sealed_record t c key iv message) ≤ room
      → Gives (seal t c key iv message room) (sealed_record t c key iv message) (sealed_record t c key iv message) room
  unfolding seal
  seal_gives room hr =
      let s = sealed_record t c key iv message in
      outcome_gives (decide (seal_rows t c key iv message room) s) s s room
      (passed_rows (seal_rows t c key iv message room) s (is_key key hk, (is16 iv hi, (not_too_long message hm, (nz, (le-ltb room (length s) hr, tt))))))

  -- with room for the record that the formulas give
  seals_to : (r : List ℕ) → sealed_record t c key iv message ≡ r → (seal t c key iv message (length r)).answer ≡ given r
  seals_to r e = (seal_gives (length r) (le_of_eq (ap length e))).answers ∙ ap (λ (x : List ℕ). given x) e

module _ (t : Finish) (c : Cipher) (laws : Lawful c) (key : List ℕ) (kb : Key key) where
  -- a message that opening finds was sealed
  found_sealed : (sealed m : List ℕ) → Bytes sealed → Found t c key sealed m → SealedFrom t c key sealed m
  found_sealed sealed m sb f =
      record {
        iv = iv;
        iv-block = ib;
        m_bytes = bytes_left_of (subst Bytes (sym padded_is) (bytes_concat bs bs_good));
        seals = seals_to t c key iv m f.masked kb.size ib.long m_fits sealed whole;
      }
    where
      lens : (16 + overhead t ≤ length sealed) × (length sealed ≤ longest_sealed t) × ((length sealed - overhead t) % 16 ≡ 0)
      lens = unfold Fits in (sealed_lengths t sealed f.length_right)

      iv : List ℕ
      iv = iv_part sealed

      ib : Block (iv_part sealed)
      ib = unfold iv_part in record { long = length-take-le 16 sealed (omega (arith, lens.0)); bytes = bytes_take 16 sealed sb }

      mask : List ℕ
      mask = start_mask c key (iv_part sealed)

      cs : List (List ℕ)
      cs = blocks_of (cipher_part t sealed)

      aligned : length (cipher_part t sealed) % 16 ≡ 0
      aligned = ap (λ (n : ℕ). n % 16) (cipher-length t sealed (omega (arith, lens.0))) ∙ lens.2

      cs_good : AllBlocks (blocks_of (cipher_part t sealed))
      cs_good = good_blocks (cipher_part t sealed) aligned (unfold cipher_part in (bytes_take (length sealed - overhead t) (drop 16 sealed) (bytes_drop 16 sealed sb)))

      bs : List (List ℕ)
      bs = opened_blocks c laws key kb (blocks_of (cipher_part t sealed)) (start_mask c key (iv_part sealed))

      bs_good : AllBlocks (opened_blocks c laws key kb (blocks_of (cipher_part t sealed)) (start_mask c key (iv_part sealed)))
      bs_good = opened_good c laws key kb cs mask cs_good (start-block c laws key kb iv ib)

      padded_is : padded m ≡ concat (opened_blocks c laws key kb (blocks_of (cipher_part t sealed)) (start_mask c key (iv_part sealed)))
      padded_is =
          unpad_sound 16 (plaintext_of t c key sealed) m (unfold unpadded in f.message)
          ∙ plain_is
        where
          plain_is : plaintext_of t c key sealed ≡ concat (opened_blocks c laws key kb (blocks_of (cipher_part t sealed)) (start_mask c key (iv_part sealed)))
          plain_is = unfold plaintext_of in (decrypted_is c laws key kb cs mask)

      bytes_left_of : Bytes (padded m) → Bytes m
      bytes_left_of h = bytes_left m (0x80 ∷ replicate (15 - length m % 16) 0) (unfold padded in h)

      blocks_are : blocks_of (padded m) ≡ opened_blocks c laws key kb (blocks_of (cipher_part t sealed)) (start_mask c key (iv_part sealed))
      blocks_are = ap blocks_of padded_is ∙ blocks-concat bs bs_good

      back : sealed_blocks c laws key kb bs mask ≡ cs
      back = sealed_opened c laws key kb cs mask cs_good (start-block c laws key kb iv ib)

      text_is : (unbroken c plaintext key iv bs).output ≡ cipher_part t sealed
      text_is = unbroken_is c laws key kb iv ib bs ∙ ap concat back ∙ concat-blocks (cipher_part t sealed) aligned

      tag_is : unbroken_tag t c plaintext key iv bs ≡ tag_part t sealed
      tag_is =
          sym (same_tag c laws key kb iv ib t bs bs_good) ∙ ap (unbroken_tag t c ciphertext key iv) back
          ∙ same_true (unbroken_tag t c ciphertext key iv cs) (tag_part t sealed) f.tag_right

      m_fits : length m ≤ longest_message
      m_fits =
          let n : 16 * (length m / 16 + 1) ≡ 16 * length bs = sym (length-padded m) ∙ ap length padded_is ∙ length-concat bs bs_good in
          let k : length bs ≡ (length sealed - overhead t) / 16 = length_opened c laws key kb cs mask ∙ count_middle (cipher_part t sealed) ∙ ap (λ (n : ℕ). n / 16) (cipher-length t sealed (omega (arith, lens.0))) in
          omega (arith, lens.1)

      whole : sealed_record t c key (iv_part sealed) m ≡ sealed
      whole =
          unfold sealed_record in
          (ap (λ (b : List (List ℕ)). iv_part sealed ++ (unbroken c plaintext key (iv_part sealed) b).output ++ unbroken_tag t c plaintext key (iv_part sealed) b) blocks_are
          ∙ ap₂ (λ (x y : List ℕ). iv_part sealed ++ x ++ y) text_is tag_is
          ∙ parts_whole t sealed (omega (arith, lens.0)))

  -- the parts of the record that the formulas give, and the blocks of its ciphertext
  module _ (finish : LawfulFinish t c) (iv m : List ℕ) (ib : Block iv) (mb : Bytes m) where
    abbrev message_sealed : List (List ℕ)
    message_sealed = sealed_blocks c laws key kb (blocks_of (padded m)) (start_mask c key iv)

    pub message_blocks : AllBlocks (blocks_of (padded m))
    message_blocks = good_blocks (padded m) (ap (λ (n : ℕ). n % 16) (length-padded m) ∙ omega arith) (bytes_padded m mb)

    message_sealed_lem : AllBlocks message_sealed
    message_sealed_lem = sealed_good c laws key kb (blocks_of (padded m)) (start_mask c key iv) message_blocks (start-block c laws key kb iv ib)

    message_tag : length (unbroken_tag t c plaintext key iv (blocks_of (padded m))) ≡ t.tag_length
    message_tag = unbroken_tag_long c laws key kb.size iv ib.long t finish plaintext (blocks_of (padded m)) (all_blocks-long (blocks_of (padded m)) message_blocks)

    pub record_parts : (iv_part (sealed_record t c key iv m) ≡ iv)
        × (cipher_part t (sealed_record t c key iv m) ≡ concat message_sealed)
        × (tag_part t (sealed_record t c key iv m) ≡ unbroken_tag t c plaintext key iv (blocks_of (padded m)))
    unfolding sealed_record
    record_parts =
        let out = (unbroken c plaintext key iv (blocks_of (padded m))).output in
        let parts = parts_of t iv out (unbroken_tag t c plaintext key iv (blocks_of (padded m))) ib.long message_tag in
        (parts.0, parts.1 ∙ unbroken_is c laws key kb iv ib (blocks_of (padded m)), parts.2)

    pub record-blocks : blocks_of (cipher_part t (sealed_record t c key iv m)) ≡ message_sealed
    record-blocks = ap blocks_of record_parts.1 ∙ blocks-concat message_sealed message_sealed_lem

  -- what was sealed opening finds
  sealed_found : LawfulFinish t c → (sealed m : List ℕ) → SealedFrom t c key sealed m → Found t c key sealed m
  sealed_found finish sealed m f = subst (λ (r : List ℕ). Found t c key r m) g.1 by
    where
      iv : List ℕ
      iv = f.iv

      g : NoneHolds (seal_rows t c key f.iv m (length sealed)) × (sealed_record t c key f.iv m ≡ sealed)
      g = sealing_given t c key f.iv m sealed (length sealed) f.seals

      bs : List (List ℕ)
      bs = blocks_of (padded m)

      bs_good : AllBlocks (blocks_of (padded m))
      bs_good = message_blocks finish f.iv m f.iv-block f.m_bytes

      mask : List ℕ
      mask = start_mask c key f.iv

      cs : List (List ℕ)
      cs = sealed_blocks c laws key kb (blocks_of (padded m)) (start_mask c key f.iv)

      tag : List ℕ
      tag = unbroken_tag t c plaintext key f.iv (blocks_of (padded m))

      r : List ℕ
      r = sealed_record t c key f.iv m

      parts : (iv_part (sealed_record t c key f.iv m) ≡ f.iv) × (cipher_part t (sealed_record t c key f.iv m) ≡ concat cs) × (tag_part t (sealed_record t c key f.iv m) ≡ tag)
      parts = record_parts finish f.iv m f.iv-block f.m_bytes

      blocks_are : blocks_of (cipher_part t r) ≡ cs
      blocks_are = record-blocks finish f.iv m f.iv-block f.m_bytes

      r_long : length r ≡ 16 * (length m / 16 + 1) + overhead t
      r_long = sealed_length_lem c laws key kb.size iv f.iv-block.long t finish m ∙ omega arith

      fine : not_sealed t r ≡ false
      fine = lengths_sealed t r (unfold Fits in (rw r_long (omega arith), rw r_long (omega (arith, message_fits m g.0.1.1.0)), rw r_long (omega arith)))

      masked : zero_mask c key (iv_part r) ≡ false
      masked = ap (zero_mask c key) parts.0 ∙ g.0.1.1.1.0

      tag_same : same (unbroken_tag t c ciphertext key (iv_part r) (blocks_of (cipher_part t r))) (tag_part t r) ≡ true
      tag_same =
          ap₂ (λ (x y : List ℕ). same x y)
          (ap₂ (λ (v : List ℕ) (b : List (List ℕ)). unbroken_tag t c ciphertext key v b) parts.0 blocks_are ∙ same_tag c laws key kb iv f.iv-block t bs bs_good)
          parts.2
          ∙ same_self tag

      plain_is : plaintext_of t c key r ≡ padded m
      plain_is =
          unfold plaintext_of in
          (ap₂ (λ (v : List ℕ) (b : List (List ℕ)). decrypted c key b (start_mask c key v)) parts.0 blocks_are
          ∙ decrypted_is c laws key kb cs mask
          ∙ ap concat (opened_sealed c laws key kb bs mask bs_good (start-block c laws key kb iv f.iv-block))
          ∙ concat-blocks (padded m) (ap (λ (n : ℕ). n % 16) (length-padded m) ∙ omega arith))

      message_is : unpadded (plaintext_of t c key r) ≡ some m
      message_is = ap unpadded plain_is ∙ (unfold unpadded in (unpad_complete 16 m (rw (length-padded m) (omega arith))))

      by : Found t c key r m
      by = record { key_right = is_key key kb.size; length_right = fine; masked = masked; tag_right = tag_same; message = message_is }

-- DEMAND 2 (a)
pub demand2a : (t : Finish) (c : Cipher) → Lawful c → LawfulFinish t c → Demand2a t c
unfolding seal
demand2a t c laws finish =
    record {
      gives = λ key iv message r room e. outcome_given_bytes (seal_rows t c key iv message room) (sealed_record t c key iv message) r room e;
      seals = λ key iv message room nz hk hi hm hr. seal_gives t c key iv message nz hk hi hm room hr;
      long = λ key iv message hk hi. sealed_length_lem c laws key hk iv hi t finish message ∙ omega arith;
    }

-- DEMAND 2 (b)
pub demand2b : (t : Finish) (c : Cipher) → Lawful c → LawfulFinish t c → Demand2b t c
demand2b t c laws finish =
    record {
      only_sealed = λ key sealed m room kb sb e.
          let f = given_found t c key sealed room m e in
          (found_sealed t c laws key kb sealed m sb f.0, f.1, whole key sealed m room e);
      all_sealed = λ key sealed m room kb f h. whole key sealed m room (found_given t c key sealed room m (sealed_found t c laws key kb finish sealed m f) (omega (arith, h)));
      no_room = λ key sealed m room kb f h. found_refused t c key sealed room m (sealed_found t c laws key kb finish sealed m f) h;
      only_no_room = λ key sealed room kb sb e.
          let f = refused_found t c key sealed room e in
          (f.0, (found_sealed t c laws key kb sealed f.0 sb f.1.0, f.1.1));
    }
  where
    whole : (key sealed m : List ℕ) (room : ℕ) → (open_sealed t c key sealed room).answer ≡ given m → Gives (open_sealed t c key sealed room) m m room
    whole key sealed m room e = unfold open_sealed in (outcome_given_bytes (open_rows t c key sealed room) (message_of t c key sealed) m room e).1

-- what sealing gave is opened again
pub opens_sealed : (t : Finish) (c : Cipher) → Lawful c → LawfulFinish t c → OpensSealed t c
opens_sealed t c laws finish key iv message r room lent kb ib mb e h =
    let g = sealing_given t c key iv message r room e in
    (demand2b t c laws finish).all_sealed key r message lent kb
    (record {
      iv = iv;
      iv-block = ib;
      m_bytes = mb;
      seals = seals_to t c key iv message g.0.1.1.1.0 kb.size ib.long (message_fits message g.0.1.1.0) r g.1;
    }) h
