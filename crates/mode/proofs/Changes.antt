-- EVERY CHANGE FELT. A block's ciphertext, and its middletext, are made from the block and the mask at its place, and each gives the block back.
-- In the pre-authenticator the difference of two middletexts is multiplied by x once for each later block, which can be undone too.
use mathlib.Core.Path.{◌≡◌, refl, sym, ap, ◌∙◌}
use mathlib.Core.Bool.{false}
use mathlib.Core.List.{List, [], ◌∷◌}
use Prim.Native.Nat.{ℕ, zero, suc, ◌<◌}
use native.Mathlib.Nat.{suc_inj}
use native.Mathlib.Decide.{dec_lt}
use native.Mathlib.Omega.{arith}
use lib.ListN.{length, get_or, get_or-eq_default}
use lib.Seq.{ext_get_or}
use Rattle.blocks.specs.Bytes.{Bytes, Block, xor_bytes}
use Rattle.blocks.proofs.XorBytes.{xor_bytes_comm, xor_bytes_injective, block-xor}
use Rattle.blocks.proofs.Bridge.{same_bytes}
use Rattle.gf128.specs.Gf128.{times_x, jump}
use Rattle.gf128.proofs.TimesX.{block-zero, block-times_x, block-jump, length-jump}
use Rattle.gf128.proofs.JumpBy.{jump_injective}
use Rattle.fips197.specs.Aes.{Key}
use Rattle.mode.specs.Mode.{Cipher, Lawful, Finish, LawfulFinish, Source, plaintext, ciphertext, RunRecord, in_words, zero_block, blocks_of, padded, start_mask, middletext, pass, unbroken, iv_part, cipher_part}
use Rattle.mode.specs.Table.{given, unaligned}
use Rattle.mode.specs.Calls.{Kind, answer_bytes, middle, blocks_of_run, unaligned_run, seal, pass_from, run_record, seal_run, check_run, check_run_rows}
use Rattle.mode.specs.Demands.{DifferOnlyAt, ChangesShow}
use Rattle.mode.proofs.Laws.{jump_next, preauthenticator_from, preauthenticator_long}
use Rattle.mode.proofs.Bytes.{AllBlocks, all_blocks-long, run_blocks}
use Rattle.mode.proofs.Decisions.{given_rows}
use Rattle.mode.proofs.Halves.{start-block, middle_block, preauthenticator_block}
use Rattle.mode.proofs.Demand2.{cipher_block, sealed_blocks, plain-cipher, plain_block, length_sealed, sealing_given, message_blocks, record_parts, record-blocks}
use Rattle.mode.proofs.Records.{run_given_lem, mask_block, run_sealed_lem}

-- ---- lists of blocks

block_at : (bs : List (List ℕ)) → AllBlocks bs → (i : ℕ) → i < length bs → Block (get_or bs i [])
block_at [] h i l = absurd (omega arith)
block_at (b ∷ bs) h zero l = h.0
block_at (b ∷ bs) h (suc i) l = block_at bs h.1 i (omega arith)

-- the block in which two lists differ is one of theirs
differ_within : (k : ℕ) (xs ys : List (List ℕ)) → DifferOnlyAt k xs ys → k < length xs
differ_within k xs ys d =
    let n = d.count in
    elim (dec_lt k (length xs)) [
      | yes l ↦ l
      | no l ↦ absurd (d.there (get_or-eq_default xs [] {n = k} (omega arith) ∙ sym (get_or-eq_default ys [] {n = k} (omega arith))))
    ]

module _ (c : Cipher) (laws : Lawful c) (key : List ℕ) (kb : Key key) where
  -- ---- the ciphertext

  sealed_at : (bs : List (List ℕ)) (mask : List ℕ) (i : ℕ) → i < length bs
      → get_or (sealed_blocks c laws key kb bs mask) i [] ≡ cipher_block c laws key kb (jump i mask) (get_or bs i [])
  unfolding sealed_blocks jump
  sealed_at [] mask i l = absurd (omega arith)
  sealed_at (b ∷ bs) mask zero l = refl
  sealed_at (b ∷ bs) mask (suc i) l =
      sealed_at bs (times_x mask) i (omega arith) ∙ ap (λ (m : List ℕ). cipher_block c laws key kb m (get_or bs i [])) (jump_next i mask)

  cipher_injective : (mask a b : List ℕ) → Block mask → Block a → Block b → cipher_block c laws key kb mask a ≡ cipher_block c laws key kb mask b → a ≡ b
  cipher_injective mask a b hm ha hb e =
      sym (plain-cipher c laws key kb mask a hm ha) ∙ ap (plain_block c laws key kb mask) e ∙ plain-cipher c laws key kb mask b hm hb

  sealed_differ : (k : ℕ) (xs ys : List (List ℕ)) (mask : List ℕ) → AllBlocks xs → AllBlocks ys → Block mask → DifferOnlyAt k xs ys
      → DifferOnlyAt k (sealed_blocks c laws key kb xs mask) (sealed_blocks c laws key kb ys mask)
  sealed_differ k xs ys mask hx hy hm d =
      let lx = length_sealed c laws key kb xs mask in
      let ly = length_sealed c laws key kb ys mask in
      let n = d.count in
      let w = differ_within k xs ys d in
      record {
        count = lx ∙ n ∙ sym ly;
        there = λ e. d.there
            (cipher_injective (jump k mask) (get_or xs k []) (get_or ys k []) (block-jump k mask hm) (block_at xs hx k w) (block_at ys hy k (omega arith))
            (sym (sealed_at xs mask k w) ∙ e ∙ sealed_at ys mask k (omega arith)));
        elsewhere = λ i ne. elim (dec_lt i (length xs)) [
          | yes l ↦ sealed_at xs mask i l ∙ ap (cipher_block c laws key kb (jump i mask)) (d.elsewhere i ne) ∙ sym (sealed_at ys mask i (omega arith))
          | no l ↦
              get_or-eq_default (sealed_blocks c laws key kb xs mask) [] {n = i} (omega arith)
              ∙ sym (get_or-eq_default (sealed_blocks c laws key kb ys mask) [] {n = i} (omega arith))
        ];
      }

  -- ---- the pre-authenticator, from either source

  middle_injective : (s : Source) (mask a b : List ℕ) → Block mask → Block a → Block b → middletext c s key mask a ≡ middletext c s key mask b → a ≡ b
  middle_injective s mask a b hm ha hb e =
      xor_bytes_injective a b mask (ha.long ∙ sym hm.long) (hb.long ∙ sym hm.long) (by s e)
    where
      by : (s : Source) → middletext c s key mask a ≡ middletext c s key mask b → xor_bytes a mask ≡ xor_bytes b mask
      by plaintext e =
          unfold middletext in
          (sym (laws.first_half_undone key (xor_bytes a mask) kb (block-xor a mask ha hm)) ∙ ap (c.first_half_back key) e
          ∙ laws.first_half_undone key (xor_bytes b mask) kb (block-xor b mask hb hm))
      by ciphertext e =
          unfold middletext in
          (sym (laws.second_half_back_undone key (xor_bytes a mask) kb (block-xor a mask ha hm)) ∙ ap (c.second_half key) e
          ∙ laws.second_half_back_undone key (xor_bytes b mask) kb (block-xor b mask hb hm))

  module _ (s : Source) where
    -- two values that go into the same blocks and come out equal are equal
    into_same : (bs : List (List ℕ)) (mask p q : List ℕ) → AllBlocks bs → Block mask → Block p → Block q
        → (pass c s key bs mask p).preauthenticator ≡ (pass c s key bs mask q).preauthenticator → p ≡ q
    into_same bs mask p q h hm hp hq e =
        let l = all_blocks-long bs h in
        let n = length bs in
        let own = (pass c s key bs mask zero_block).preauthenticator in
        let lo = preauthenticator_long c laws s key kb.size bs mask zero_block l hm.long block-zero.long in
        jump_injective n p q hp hq
        (xor_bytes_injective (jump n p) (jump n q) own (length-jump n p hp.long ∙ sym lo) (length-jump n q hq.long ∙ sym lo)
        (sym (preauthenticator_from c laws s key kb.size bs mask p l hm.long hp.long) ∙ e
        ∙ preauthenticator_from c laws s key kb.size bs mask q l hm.long hq.long))

    -- the value after one block more
    next : List ℕ → List ℕ → List ℕ → List ℕ
    next mask p b = xor_bytes (times_x p) (middletext c s key mask b)

    next_block : (mask p b : List ℕ) → Block mask → Block p → Block b → Block (next mask p b)
    unfolding next
    next_block mask p b hm hp hb = block-xor (times_x p) (middletext c s key mask b) (block-times_x p hp.long) (middle_block c laws key kb s mask b hm hb)

    next_injective : (mask p a b : List ℕ) → Block mask → Block p → Block a → Block b → next mask p a ≡ next mask p b → a ≡ b
    unfolding next
    next_injective mask p a b hm hp ha hb e =
        let u = middletext c s key mask a in
        let v = middletext c s key mask b in
        let x = (block-times_x p hp.long).long in
        middle_injective s mask a b hm ha hb
        (xor_bytes_injective u v (times_x p) ((middle_block c laws key kb s mask a hm ha).long ∙ sym x) ((middle_block c laws key kb s mask b hm hb).long ∙ sym x)
        (xor_bytes_comm u (times_x p) ∙ e ∙ xor_bytes_comm (times_x p) v))

    preauthenticators_differ : (k : ℕ) (xs ys : List (List ℕ)) (mask p : List ℕ) → AllBlocks xs → AllBlocks ys → Block mask → Block p → DifferOnlyAt k xs ys
        → ¬ ((pass c s key xs mask p).preauthenticator ≡ (pass c s key ys mask p).preauthenticator)
    unfolding pass next
    preauthenticators_differ k [] ys mask p hx hy hm hp d e = let w = differ_within k [] ys d in omega arith
    preauthenticators_differ k (x ∷ xs) [] mask p hx hy hm hp d e = let n = d.count in omega arith
    preauthenticators_differ zero (x ∷ xs) (y ∷ ys) mask p hx hy hm hp d e =
        let tails : xs ≡ ys = ext_get_or [] xs ys (suc_inj d.count) (λ i l. d.elsewhere (suc i) (λ z. omega arith)) in
        d.there
        (next_injective mask p x y hm hp hx.0 hy.0
        (into_same xs (times_x mask) (next mask p x) (next mask p y) hx.1 (block-times_x mask hm.long) (next_block mask p x hm hp hx.0) (next_block mask p y hm hp hy.0)
        (e ∙ ap (λ (bs : List (List ℕ)). (pass c s key bs (times_x mask) (next mask p y)).preauthenticator) (sym tails))))
    preauthenticators_differ (suc k) (x ∷ xs) (y ∷ ys) mask p hx hy hm hp d e =
        let same : x ≡ y = d.elsewhere 0 (λ z. omega arith) in
        preauthenticators_differ k xs ys (times_x mask) (next mask p x) hx.1 hy.1 (block-times_x mask hm.long) (next_block mask p x hm hp hx.0)
        (record { count = suc_inj d.count; there = d.there; elsewhere = λ i ne. d.elsewhere (suc i) (λ z. ne (suc_inj z)) })
        (e ∙ ap (λ (b : List ℕ). (pass c s key ys (times_x mask) (next mask p b)).preauthenticator) (sym same))

    -- in the words of a run's record
    records-differ : (iv : List ℕ) (ib : Block iv) (first k : ℕ) (xs ys : List (List ℕ)) (r q : RunRecord) → AllBlocks xs → AllBlocks ys
        → run_record in_words c s key iv first xs ≡ r → run_record in_words c s key iv first ys ≡ q → DifferOnlyAt k xs ys → ¬ (r.preauthenticator ≡ q.preauthenticator)
    unfolding run_record pass_from
    records-differ iv ib first k xs ys r q hx hy er eq d e =
        let mask = jump first (start_mask c key iv) in
        let hm = mask_block c laws key kb iv ib first in
        preauthenticators_differ k xs ys mask zero_block hx hy hm block-zero d
        (same_bytes (pass c s key xs mask zero_block).preauthenticator (pass c s key ys mask zero_block).preauthenticator
        (preauthenticator_block c laws key kb s xs mask zero_block hx hm block-zero) (preauthenticator_block c laws key kb s ys mask zero_block hy hm block-zero)
        (ap (λ (r : RunRecord). r.preauthenticator) er ∙ e ∙ sym (ap (λ (r : RunRecord). r.preauthenticator) eq)))

-- ---- the calls

-- other blocks that are equal to them
differ_as : (k : ℕ) (xs ys us vs : List (List ℕ)) → us ≡ xs → vs ≡ ys → DifferOnlyAt k xs ys → DifferOnlyAt k us vs
differ_as k xs ys us vs e f d = rw (e, f) d

module _ (t : Finish) (c : Cipher) (laws : Lawful c) (finish : LawfulFinish t c) (key iv : List ℕ) (kb : Key key) (ib : Block iv) where
  of_seal : (m n r q : List ℕ) (room lent k : ℕ) → Bytes m → Bytes n → (seal t c key iv m room).answer ≡ given r → (seal t c key iv n lent).answer ≡ given q
      → DifferOnlyAt k (blocks_of (padded m)) (blocks_of (padded n))
      → (iv_part r ≡ iv_part q) × DifferOnlyAt k (blocks_of (cipher_part t r)) (blocks_of (cipher_part t q))
  of_seal m n r q room lent k hm hn em en d =
      let r-is = (sealing_given t c key iv m r room em).1 in
      let q-is = (sealing_given t c key iv n q lent en).1 in
      let blocks-in : List ℕ → List (List ℕ) = (λ x. blocks_of (cipher_part t x)) in (
        ap iv_part (sym r-is) ∙ (record_parts t c laws key kb finish iv m ib hm).0 ∙ sym (ap iv_part (sym q-is) ∙ (record_parts t c laws key kb finish iv n ib hn).0),
        differ_as k _ _ _ _ (ap blocks-in (sym r-is) ∙ record-blocks t c laws key kb finish iv m ib hm) (ap blocks-in (sym q-is) ∙ record-blocks t c laws key kb finish iv n ib hn)
            (sealed_differ c laws key kb k (blocks_of (padded m)) (blocks_of (padded n)) (start_mask c key iv) (message_blocks t c laws key kb finish iv m ib hm)
            (message_blocks t c laws key kb finish iv n ib hn) (start-block c laws key kb iv ib) d),
      )

  preauthenticators : (m n : List ℕ) (k : ℕ) → Bytes m → Bytes n → DifferOnlyAt k (blocks_of (padded m)) (blocks_of (padded n))
      → ¬ ((unbroken c plaintext key iv (blocks_of (padded m))).preauthenticator ≡ (unbroken c plaintext key iv (blocks_of (padded n))).preauthenticator)
  unfolding unbroken
  preauthenticators m n k hm hn d =
      preauthenticators_differ c laws key kb plaintext k (blocks_of (padded m)) (blocks_of (padded n)) (start_mask c key iv) zero_block
      (message_blocks t c laws key kb finish iv m ib hm) (message_blocks t c laws key kb finish iv n ib hn) (start-block c laws key kb iv ib) block-zero d

module _ (c : Cipher) (laws : Lawful c) (key iv : List ℕ) (kb : Key key) (ib : Block iv) (first : ℕ) where
  of_seal_run : (kind : Kind) (a b : List ℕ) (r q : RunRecord) (room lent k : ℕ) → Bytes a → Bytes b
      → (seal_run in_words c key iv first kind a room).answer ≡ given r → (seal_run in_words c key iv first kind b lent).answer ≡ given q
      → DifferOnlyAt k (blocks_of_run kind a) (blocks_of_run kind b)
      → DifferOnlyAt k (blocks_of (answer_bytes (seal_run in_words c key iv first kind a room))) (blocks_of (answer_bytes (seal_run in_words c key iv first kind b lent)))
      × ¬ (r.preauthenticator ≡ q.preauthenticator)
  of_seal_run kind a b r q room lent k ha hb ea eb d =
      let xs = blocks_of_run kind a in
      let ys = blocks_of_run kind b in
      let ga = run_given_lem c key iv first kind a room r ea in
      let gb = run_given_lem c key iv first kind b lent q eb in
      let hx = run_blocks kind a ha ga.0.1.1.0 in
      let hy = run_blocks kind b hb gb.0.1.1.0 in (
        differ_as k _ _ _ _ (ap blocks_of ga.2 ∙ run_sealed_lem c laws key kb iv ib first xs hx) (ap blocks_of gb.2 ∙ run_sealed_lem c laws key kb iv ib first ys hy)
            (sealed_differ c laws key kb k xs ys (jump first (start_mask c key iv)) hx hy (mask_block c laws key kb iv ib first) d),
        records-differ c laws key kb plaintext iv ib first k xs ys r q hx hy ga.1 gb.1 d,
      )

  aligned_blocks : (a : List ℕ) → Bytes a → unaligned a ≡ false → AllBlocks (blocks_of a)
  unfolding blocks_of_run unaligned_run
  aligned_blocks a h e = run_blocks middle a h e

  of_check_run : (a b : List ℕ) (r q : RunRecord) (k : ℕ) → Bytes a → Bytes b → check_run in_words c key iv first a ≡ given r → check_run in_words c key iv first b ≡ given q
      → DifferOnlyAt k (blocks_of a) (blocks_of b) → ¬ (r.preauthenticator ≡ q.preauthenticator)
  unfolding check_run
  of_check_run a b r q k ha hb ea eb d =
      let ga = given_rows (check_run_rows c key iv first a) (run_record in_words c ciphertext key iv first (blocks_of a)) r ea in
      let gb = given_rows (check_run_rows c key iv first b) (run_record in_words c ciphertext key iv first (blocks_of b)) q eb in
      records-differ c laws key kb ciphertext iv ib first k (blocks_of a) (blocks_of b) r q (aligned_blocks a ha ga.0.1.1.0) (aligned_blocks b hb gb.0.1.1.0) ga.1 gb.1 d

pub changes_show : (t : Finish) (c : Cipher) → Lawful c → LawfulFinish t c → ChangesShow t c
changes_show t c laws finish =
    record {
      of_seal = λ key iv m n r q room lent k kb ib. of_seal t c laws finish key iv kb ib m n r q room lent k;
      preauthenticators = λ key iv m n k kb ib. preauthenticators t c laws finish key iv kb ib m n k;
      of_seal_run = λ key iv first kind a b r q room lent k kb ib. of_seal_run c laws key iv kb ib first kind a b r q room lent k;
      of_check_run = λ key iv first a b r q k kb ib. of_check_run c laws key iv kb ib first a b r q k;
    }
