-- A start mask that is still zero after its replacement (ticket P3): which pairs have one, that every call refuses them, that nothing else
-- changes, and that nothing comes onto the rack.
use mathlib.Core.Path.{◌≡◌, refl, sym, ap, subst, ◌∙◌}
use mathlib.Core.Logic.{◌↔◌}
use mathlib.Core.List.{List, [], ◌∷◌}
use mathlib.Core.Bool.{Bool, true, false, cond}
use Prim.Native.Nat.{ℕ, zero, suc, ◌<◌}
use lib.ListN.{length}
use lib.Dec.{leb}
use Rattle.blocks.specs.Bytes.{xor_bytes, Block, same}
use Rattle.blocks.proofs.XorBytes.{xor_bytes-zeros}
use Rattle.gf128.proofs.TimesX.{block-zero}
use Rattle.fips197.specs.Aes.{KeyLength, Key}
use Rattle.mode.specs.Mode.{Cipher, Lawful, RunRecord, zero_block, key_block, encrypt, start_mask}
use Rattle.mode.specs.Table.{Answer, decide, any_beyond_within, apart, none, zero_mask}
use Rattle.mode.specs.Calls.{seal_run, check_run, join_list, close, test, seal, open_rows_within, open_sealed, calls_of}
use Rattle.mode.specs.Parallel.{iv_of, Setting, WellFormed, Run, Segment, empties, is_recorded, segment, Call, run_at, join_pair, join_many, AllRecorded, Allowed, merge_by, record_by, start, room_of, run_outcome, answer_of, after, after_all, EachCall}
use Rattle.mode.specs.Demands.{Refuses, ciphertext_of_segment, ZeroMask, zero_mask_iv, without, AsBefore, RunRefused, ZeroMaskRack}
use Rattle.fips197.proofs.Keys.{is_key}
use Rattle.mode.proofs.Rows.{not_too_long, is_tag}
use Rattle.mode.proofs.Decisions.{outcome_refuses}
use Rattle.mode.proofs.Blocks.{aligned}
use Rattle.mode.proofs.Halves.{first_block, first_back, second_back}
use Rattle.mode.proofs.Runs.{is16, within}
use Rattle.mode.proofs.Segments.{not_both}
use Rattle.mode.proofs.Same.{same_true, same_self}
use Rattle.mode.proofs.Demand3.{start_inv, answer_by, run_is}

-- ---- which pairs

-- step 1's sum, before its replacement
abbrev sum_of : Cipher → List ℕ → List ℕ → List ℕ
sum_of c key iv = xor_bytes (encrypt c key (xor_bytes iv (key_block key))) (key_block key)

-- a key whose first 16 bytes are not zero has no such IV
pub key-not-zero : (c : Cipher) (key iv : List ℕ) → same (key_block key) zero_block ≡ false → zero_mask c key iv ≡ false
unfolding zero_mask start_mask
key-not-zero c key iv h = by (same (sum_of c key iv) zero_block) refl
  where
    by : (t : Bool) → same (sum_of c key iv) zero_block ≡ t → same (cond t (key_block key) (sum_of c key iv)) zero_block ≡ false
    by true e = h
    by false e = e

module _ (c : Cipher) (laws : Lawful c) where
  encrypted_long : (key b : List ℕ) → KeyLength key → length b ≡ 16 → length (encrypt c key b) ≡ 16
  unfolding encrypt
  encrypted_long key b hk hb = laws.second_half-long key (c.first_half key b) hk (laws.first_half-long key b hk hb)

  -- the sum where nothing is added
  sum_is : (key iv : List ℕ) → KeyLength key → length iv ≡ 16 → key_block key ≡ zero_block → sum_of c key iv ≡ encrypt c key iv
  sum_is key iv hk hi z =
      ap (λ (k : List ℕ). xor_bytes (encrypt c key (xor_bytes iv k)) k) z
      ∙ ap (λ (v : List ℕ). xor_bytes (encrypt c key v) zero_block) (xor_bytes-zeros 16 iv hi)
      ∙ xor_bytes-zeros 16 (encrypt c key iv) (encrypted_long key iv hk hi)

  exactly : (key iv : List ℕ) → KeyLength key → length iv ≡ 16
      → (zero_mask c key iv ≡ true) ↔ ((key_block key ≡ zero_block) × (encrypt c key iv ≡ zero_block))
  unfolding zero_mask start_mask
  exactly key iv hk hi = (λ e. to (same sum zero_block) refl e, λ h. from h)
    where
      lent : List ℕ
      lent = key_block key

      sum : List ℕ
      sum = sum_of c key iv

      to : (t : Bool) → same sum zero_block ≡ t → same (cond t lent sum) zero_block ≡ true → (lent ≡ zero_block) × (encrypt c key iv ≡ zero_block)
      to true s e =
          let k = same_true lent zero_block e in
          (k, sym (sum_is key iv hk hi k) ∙ same_true sum zero_block s)
      to false s e = not_both (sym s ∙ e)

      either : (t : Bool) → lent ≡ zero_block → sum ≡ zero_block → cond t lent sum ≡ zero_block
      either true k z = k
      either false k z = z

      from : (lent ≡ zero_block) × (encrypt c key iv ≡ zero_block) → same (cond (same sum zero_block) lent sum) zero_block ≡ true
      from h = ap (λ (m : List ℕ). same m zero_block) (either (same sum zero_block) h.0 (sum_is key iv hk hi h.0 ∙ h.1)) ∙ same_self zero_block

  module _ (key : List ℕ) (kb : Key key) where
    -- the cipher run backwards on the zero block, half by half
    half_back : Block (c.second_half_back key zero_block)
    half_back = second_back c laws key kb zero_block block-zero

    iv-block : Block (zero_mask_iv c key)
    iv-block = first_back c laws key kb (c.second_half_back key zero_block) half_back

    one-iv : key_block key ≡ zero_block → zero_mask c key (zero_mask_iv c key) ≡ true
    one-iv z = (exactly key (zero_mask_iv c key) kb.size iv-block.long).1 (z, forwards)
      where
        forwards : encrypt c key (zero_mask_iv c key) ≡ zero_block
        forwards =
            unfold encrypt in
            (ap (c.second_half key) (laws.first_half_back_undone key (c.second_half_back key zero_block) kb half_back) ∙ laws.second_half_back_undone key zero_block kb block-zero)

    no_other : (iv : List ℕ) → Block iv → zero_mask c key iv ≡ true → iv ≡ zero_mask_iv c key
    no_other iv h e =
        sym (laws.first_half_undone key iv kb h)
        ∙ ap (c.first_half_back key)
        (sym (laws.second_half_undone key (c.first_half key iv) kb (first_block c laws key kb iv h)) ∙ ap (c.second_half_back key) zeroed)
      where
        zeroed : c.second_half key (c.first_half key iv) ≡ zero_block
        zeroed = unfold encrypt in ((exactly key iv kb.size h.long).0 e).1

-- ---- every call refuses them

pub zero_mask_lem : (c : Cipher) → Lawful c → ZeroMask c
unfolding decide seal open_sealed open_rows_within seal_run check_run close test
zero_mask_lem c laws =
    record {
      exactly = exactly c laws;
      one-iv = λ key kb z. (iv-block c laws key kb, one-iv c laws key kb z);
      no_other = λ key iv kb. no_other c laws key kb iv;
      of_seal = λ t key iv message room z hk hi hm. outcome_refuses _ _ room 10 (rw (is_key key hk, is16 iv hi, not_too_long message hm, z));
      of_open = λ t key sealed room z hk hs. outcome_refuses _ _ room 10 (rw (is_key key hk, hs, z));
      of_seal_run = λ key iv first kind bytes room z hk hi ha hb. outcome_refuses _ _ room 10 (rw (is_key key hk, is16 iv hi, ha, within first _ hb, z));
      of_check_run = λ key iv first bytes z hk hi ha hb. rw (is_key key hk, is16 iv hi, aligned bytes ha, within first _ hb, z);
      of_close = λ t key iv r z hk hi hb hw. rw (is_key key hk, is16 iv hi, within r.first r.count hb, hw, z);
      of_test = λ t key iv r tag z hk hi ht hb hw. rw (is_key key hk, is16 iv hi, is_tag t tag ht, within r.first r.count hb, hw, z);
    }

-- ---- every other pair: a row that does not hold may be left out

pub as_before : (c : Cipher) → AsBefore c
unfolding decide without seal open_sealed open_rows_within seal_run check_run close test
as_before c =
    record {
      of_seal = λ t key iv message room nz. rw nz;
      of_open = λ t key sealed room nz. rw nz;
      of_seal_run = λ key iv first kind bytes room nz. rw nz;
      of_check_run = λ key iv first bytes nz. rw nz;
      of_close = λ t key iv r nz. rw nz;
      of_test = λ t key iv r tag nz. rw nz;
    }

-- ---- the rack

pub none_recorded : (rs : List Run) (i : ℕ) → is_recorded (segment (empties rs) i) ≡ false
unfolding is_recorded empties
none_recorded [] zero = refl
none_recorded [] (suc i) = refl
none_recorded (r ∷ rs) zero = refl
none_recorded (r ∷ rs) (suc i) = none_recorded rs i

module _ (c : Cipher) (laws : Lawful c) (s : Setting) (z : zero_mask c s.key (iv_of s.work) ≡ true) (wf : WellFormed s) where
  empty_at : (i : ℕ) → is_recorded (segment (start s) i) ≡ true → ⊥
  unfolding start
  empty_at i e = not_both (sym (none_recorded _ i) ∙ e)

  run_refused : (i room : ℕ) → i < length (start s) → is_recorded (segment (start s) i) ≡ false
      → Refuses (run_outcome (calls_of c) s (start s) i room) 10 (room_of s.work room)
  run_refused i room h e =
      rw (run_is c laws s wf (start s) (start_inv c laws s wf) i room h e)
      (outcome_refuses (answer_by c laws s wf (start s) (start_inv c laws s wf) i (zero_mask c s.key (iv_of s.work)) enough)
      (ciphertext_of_segment c s (start s) i) (room_of s.work room) 10 (rw z))
    where
      enough : Bool
      enough = leb (length (ciphertext_of_segment c s (start s) i)) (room_of s.work room)

  step : (call : Call) → Allowed (start s) call → RunRefused c s (start s) call × (after (calls_of c) s (start s) call ≡ start s)
  unfolding RunRefused Allowed AllRecorded after answer_of
  step (run_at i room) m =
      let r = run_refused i room m.0 m.1 in
      (r, ap (λ (a : Answer RunRecord). record_by a (run_outcome (calls_of c) s (start s) i room) (start s) i) r.answers ∙ (unfold record_by in refl))
  step (join_pair i j) m = absurd (empty_at i m.0.0)
  step (join_many []) m = (tt, unfold merge_by join_list decide any_beyond_within apart none in refl)
  step (join_many (i ∷ is)) m = absurd (empty_at i m.0.0)

  steps : (calls : List Call) → EachCall (calls_of c) s Allowed (start s) calls
      → EachCall (calls_of c) s (RunRefused c s) (start s) calls × (after_all (calls_of c) s (start s) calls ≡ start s)
  unfolding EachCall after_all
  steps [] m = (tt, refl)
  steps (call ∷ calls) m =
      let one = step call m.0 in
      let rest = steps calls (subst (λ (xs : List Segment). EachCall (calls_of c) s Allowed xs calls) one.1 m.1) in (
        (one.0, subst (λ (xs : List Segment). EachCall (calls_of c) s (RunRefused c s) xs calls) (sym one.1) rest.0),
        ap (λ (xs : List Segment). after_all (calls_of c) s xs calls) one.1 ∙ rest.1,
      )

pub zero_mask_rack : (c : Cipher) → Lawful c → ZeroMaskRack c
zero_mask_rack c laws s z wf calls m = steps c laws s z wf calls m
