-- Laws of records made in any way: grouping does not matter, a join stays within the limit, an empty right neighbour changes nothing;
-- and checking a run's ciphertext gives the record that sealing it gave.
use mathlib.Core.Path.{◌≡◌, refl, sym, ap, subst, ◌∙◌}
use mathlib.Core.List.{List, [], ◌∷◌}
use mathlib.Core.Bool.{true, false, not}
use Prim.Native.Nat.{ℕ, ◌+◌, ◌-◌, ◌%◌, ◌≤◌}
use native.Mathlib.Nat.{add_assoc, add_comm, add-zero}
use native.Mathlib.Omega.{arith}
use lib.ListN.{length, replicate}
use lib.Seq.{take-append_seam}
use lib.Dec.{eqb, ltb}
use borrow.Author.Tests.{eqb-true, ltb-false, not-false}
use Rattle.blocks.specs.Bytes.{xor_bytes, Block, concat}
use Rattle.blocks.specs.Words.{Proper, bytes_of, words_of}
use Rattle.blocks.proofs.Bridge.{block-bytes_of, bytes_words, words_bytes}
use Rattle.blocks.proofs.XorBytes.{xor_bytes_assoc, xor_bytes-zeros}
use Rattle.gf128.specs.Gf128.{jump}
use Rattle.gf128.proofs.TimesX.{jump-xor, jump-add, length-jump, block-zero, block-jump}
use Rattle.fips197.specs.Aes.{Key}
use Rattle.mode.specs.Mode.{Cipher, Lawful, plaintext, ciphertext, RunRecord, in_words, zero_block, start_mask, blocks_of}
use Rattle.mode.specs.Table.{Answer, refused, given, decide, NoneHolds, beyond, beyond_within, any_beyond, any_beyond_within, apart, limit, none}
use Rattle.mode.specs.Calls.{Kind, answer_bytes, joined, joined_onto, joined_all, join_list, blocks_of_run, outcome_by, pass_from, run_record, seal_run, seal_run_rows, check_run, check_run_rows}
use Rattle.fips197.proofs.Keys.{is_key}
use Rattle.mode.proofs.InWords.{same-record, joined-block}
use Rattle.mode.proofs.Blocks.{aligned}
use Rattle.mode.proofs.Runs.{is16}
use Rattle.mode.proofs.Bytes.{AllBlocks, run_blocks, blocks-concat, length-concat}
use Rattle.mode.specs.Demands.{CheckedAsSealed, ListWithin}
use Rattle.mode.proofs.Decisions.{given_rows, passed_rows}
use Rattle.mode.proofs.Demand2.{sealed_blocks, same_preauthenticator, sealed_good, output_is, length_sealed}
use Rattle.mode.proofs.Passed.{or-false}
use Rattle.mode.proofs.Halves.{start-block}

-- joining is independent of grouping
pub joined_assoc : (a b c : RunRecord) → joined in_words (joined in_words a b) c ≡ joined in_words a (joined in_words b c)
unfolding joined
joined_assoc a b c =
    same-record (joined in_words (joined in_words a b) c) (joined in_words a (joined in_words b c)) refl (add_assoc a.count b.count c.count)
    (ap words_of (ap (λ (x : List ℕ). xor_bytes (jump c.count x) z) (bytes_words (xor_bytes (jump b.count x) y) (joined-block x y b.count hx hy))
    ∙ ap (λ (t : List ℕ). xor_bytes t z)
    (jump-xor c.count (jump b.count x) y (length-jump b.count x hx.long) hy.long
    ∙ ap (λ (t : List ℕ). xor_bytes t (jump c.count y))
    (sym (jump-add c.count b.count x) ∙ ap (λ (n : ℕ). jump n x) (add_comm c.count b.count)))
    ∙ xor_bytes_assoc (jump (b.count + c.count) x) (jump c.count y) z
    ∙ ap (xor_bytes (jump (b.count + c.count) x)) (sym (bytes_words (xor_bytes (jump c.count y) z) (joined-block y z c.count hy hz)))))
  where
    x : List ℕ
    x = bytes_of a.preauthenticator

    y : List ℕ
    y = bytes_of b.preauthenticator

    z : List ℕ
    z = bytes_of c.preauthenticator

    hx : Block (bytes_of a.preauthenticator)
    hx = block-bytes_of a.preauthenticator

    hy : Block (bytes_of b.preauthenticator)
    hy = block-bytes_of b.preauthenticator

    hz : Block (bytes_of c.preauthenticator)
    hz = block-bytes_of c.preauthenticator

-- card (j), of every record
pub joined-empty : (a : RunRecord) (first : ℕ) → Proper a.preauthenticator → joined in_words a (in_words.make first 0 zero_block) ≡ a
unfolding joined jump
joined-empty a first h =
    same-record (joined in_words a (in_words.make first 0 zero_block)) a refl (add-zero a.count)
    (ap words_of (ap (xor_bytes (bytes_of a.preauthenticator)) (bytes_words zero_block block-zero) ∙ xor_bytes-zeros 16 (bytes_of a.preauthenticator) (block-bytes_of a.preauthenticator).long)
    ∙ words_bytes a.preauthenticator h)

-- a joined list is within the limit again: its sums need no more than 32 bits
onto_within : (l : RunRecord) (rs : List RunRecord) → l.first + l.count ≤ limit → any_beyond in_words rs ≡ false → apart in_words (l ∷ rs) ≡ false
    → (joined_onto in_words l rs).first + (joined_onto in_words l rs).count ≤ limit
unfolding joined_onto any_beyond_within apart beyond_within joined
onto_within l [] h b a = h
onto_within l (r ∷ rs) h b a =
    let u = or-false (ltb limit (r.first + r.count)) (any_beyond in_words rs) b in
    let v = or-false (not (eqb (l.first + l.count) r.first)) (apart in_words (r ∷ rs)) a in
    let e : l.first + l.count ≡ r.first = eqb-true (l.first + l.count) r.first (not-false (eqb (l.first + l.count) r.first) v.0) in
    let k : r.first + r.count ≤ limit = ltb-false limit (r.first + r.count) u.0 in
    onto_within (joined in_words l r) rs (omega arith) u.1 (next rs e v.1)
  where
    next : (rs : List RunRecord) → l.first + l.count ≡ r.first → apart in_words (r ∷ rs) ≡ false → apart in_words (joined in_words l r ∷ rs) ≡ false
    next [] e a = refl
    next (q ∷ qs) e a =
        let n : l.first + (l.count + r.count) ≡ r.first + r.count = omega arith in
        rw n a

pub list_within : ListWithin
unfolding join_list
list_within [] r e = absurd (let z = (given_rows ((4, any_beyond in_words []) ∷ (8, apart in_words []) ∷ (9, none []) ∷ []) (joined_all in_words []) r e).0.1.1.0 in bad (unfold none in z))
  where
    bad : true ≡ false → ⊥
    bad e = let z : ◌≡◌ {A = ℕ} 0 1 = cc in omega arith
list_within (l ∷ rs) r e =
    let g = given_rows ((4, any_beyond in_words (l ∷ rs)) ∷ (8, apart in_words (l ∷ rs)) ∷ (9, none (l ∷ rs)) ∷ []) (joined_all in_words (l ∷ rs)) r e in
    let u = or-false (beyond l.first l.count) (any_beyond in_words rs) (unfold any_beyond_within in g.0.0) in
    let k : l.first + l.count ≤ limit = ltb-false limit (l.first + l.count) (unfold beyond_within in u.0) in
    subst (λ (r : RunRecord). r.first + r.count ≤ limit) g.1 (unfold joined_all in (onto_within l rs k u.1 g.0.1.0))

-- ---- a run that was sealed

by_answer : (a : Answer RunRecord) (out : List ℕ) (room : ℕ) (r : RunRecord) → (outcome_by a out room).answer ≡ given r → (a ≡ given r) × (answer_bytes (outcome_by a out room) ≡ out)
unfolding outcome_by
by_answer (refused n) out room r e = absurd (let z : ◌≡◌ {A = ℕ} 0 1 = cc in omega arith)
by_answer (given q) out room r e = (e, take-append_seam out (replicate (room - length out) 0))

-- where its record is given: no row holds, and record and ciphertext are the formulas'
pub run_given_lem : (c : Cipher) (key iv : List ℕ) (first : ℕ) (kind : Kind) (bytes : List ℕ) (room : ℕ) (r : RunRecord) → (seal_run in_words c key iv first kind bytes room).answer ≡ given r
    → NoneHolds (seal_run_rows c key iv first kind bytes room)
    × (run_record in_words c plaintext key iv first (blocks_of_run kind bytes) ≡ r)
    × (answer_bytes (seal_run in_words c key iv first kind bytes room) ≡ (pass_from c plaintext key iv first (blocks_of_run kind bytes)).output)
unfolding seal_run
run_given_lem c key iv first kind bytes room r e =
    let bs = blocks_of_run kind bytes in
    let rows = seal_run_rows c key iv first kind bytes room in
    let a = by_answer (decide rows (run_record in_words c plaintext key iv first bs)) (pass_from c plaintext key iv first bs).output room r e in
    let g = given_rows rows (run_record in_words c plaintext key iv first bs) r a.0 in
    (g.0, g.1, a.1)

module _ (c : Cipher) (laws : Lawful c) (key : List ℕ) (kb : Key key) (iv : List ℕ) (ib : Block iv) (first : ℕ) where
  pub mask_block : Block (jump first (start_mask c key iv))
  mask_block = block-jump first (start_mask c key iv) (start-block c laws key kb iv ib)

  -- the blocks of its ciphertext
  abbrev pub run_sealed : List (List ℕ) → List (List ℕ)
  run_sealed bs = sealed_blocks c laws key kb bs (jump first (start_mask c key iv))

  pub run_text : (bs : List (List ℕ)) → (pass_from c plaintext key iv first bs).output ≡ concat (run_sealed bs)
  unfolding pass_from
  run_text bs = output_is c laws key kb bs (jump first (start_mask c key iv)) zero_block

  pub run_sealed_lem : (bs : List (List ℕ)) → AllBlocks bs → blocks_of (pass_from c plaintext key iv first bs).output ≡ run_sealed bs
  run_sealed_lem bs good = ap blocks_of (run_text bs) ∙ blocks-concat (run_sealed bs) (sealed_good c laws key kb bs (jump first (start_mask c key iv)) good mask_block)

-- checking a run's ciphertext gives the record that sealing it gave
pub checked_as_sealed : (c : Cipher) → Lawful c → CheckedAsSealed c
checked_as_sealed c laws key iv kb ib first kind bytes room hb r e =
    ap (check_run in_words c key iv first) g.2 ∙ passes
    ∙ ap (λ (x : RunRecord). given x) (same ∙ g.1)
  where
    bs : List (List ℕ)
    bs = blocks_of_run kind bytes

    text : List ℕ
    text = (pass_from c plaintext key iv first (blocks_of_run kind bytes)).output

    g : NoneHolds (seal_run_rows c key iv first kind bytes room)
        × (run_record in_words c plaintext key iv first bs ≡ r) × (answer_bytes (seal_run in_words c key iv first kind bytes room) ≡ text)
    g = run_given_lem c key iv first kind bytes room r e

    good : AllBlocks (blocks_of_run kind bytes)
    good = run_blocks kind bytes hb g.0.1.1.0

    mask : List ℕ
    mask = jump first (start_mask c key iv)

    cs : List (List ℕ)
    cs = run_sealed c laws key kb iv ib first (blocks_of_run kind bytes)

    cs_good : AllBlocks (run_sealed c laws key kb iv ib first (blocks_of_run kind bytes))
    cs_good = sealed_good c laws key kb bs mask good (mask_block c laws key kb iv ib first)

    blocks_are : blocks_of text ≡ cs
    blocks_are = run_sealed_lem c laws key kb iv ib first bs good

    text_aligned : length text % 16 ≡ 0
    text_aligned =
        ap (λ (l : List ℕ). length l % 16) (run_text c laws key kb iv ib first bs) ∙ ap (λ (n : ℕ). n % 16) (length-concat cs cs_good) ∙ omega arith

    four : beyond first (length (blocks_of text)) ≡ false
    four = ap (λ (l : List (List ℕ)). beyond first (length l)) blocks_are ∙ ap (beyond first) (length_sealed c laws key kb bs mask) ∙ g.0.1.1.1.0

    same : run_record in_words c ciphertext key iv first (blocks_of text) ≡ run_record in_words c plaintext key iv first bs
    same =
        ap (run_record in_words c ciphertext key iv first) blocks_are
        ∙ (unfold run_record pass_from in
        same-record (run_record in_words c ciphertext key iv first cs) (run_record in_words c plaintext key iv first bs) refl (length_sealed c laws key kb bs mask)
        (ap words_of (same_preauthenticator c laws key kb bs mask zero_block good (mask_block c laws key kb iv ib first))))

    passes : check_run in_words c key iv first text ≡ given (run_record in_words c ciphertext key iv first (blocks_of text))
    passes =
        unfold check_run in
        passed_rows (check_run_rows c key iv first text) (run_record in_words c ciphertext key iv first (blocks_of text))
        (is_key key kb.size, (is16 iv ib.long, (aligned text text_aligned, (four, (g.0.1.1.1.1.0, tt)))))
