-- THE PROMISES of the exported functions: each number is that of a row, or 24 of this layer; after a refusal everything lent is zero.
use mathlib.Core.Path.{◌≡◌, refl, ap, sym, subst, ◌∙◌}
use mathlib.Core.Logic.{inl, inr}
use mathlib.Core.Bool.{Bool, true, false, cond, not, ◌&&◌, ◌||◌}
use mathlib.Core.List.{List, [], ◌∷◌}
use Prim.Native.Nat.{ℕ}
use lib.Dec.{T, eqb, ltb}
use borrow.Author.Tests.{eqb-true}
use Rattle.blocks.specs.Bytes.{zeros}
use Rattle.mode.specs.Mode.{plaintext, in_words}
use Rattle.mode.specs.declared.RunRecord.{RunRecord}
use Rattle.mode.specs.Refusals.{answered, number_in}
use Rattle.mode.specs.Demands.{Answered}
use Rattle.mode.proofs.Demands.{demand1}
use Rattle.mode.proofs.Numbers.{number_kept, answers}
use Rattle.mode.specs.Aes.{aes}
use Rattle.mode.specs.Table.{Answer, refused, given, decide}
use Rattle.mode.specs.Calls.{outcome_by, Kind, seal, seal_rows, open_sealed, open_rows, open_rows_within, seal_run, seal_run_rows, blocks_of_run, pass_from, run_record, check_run, check_run_rows, join_two, join_two_rows, join_list, join_list_rows, close, close_rows, test, test_rows, jump_mask, jump_rows, sha1_text, sha1_rows, number, held_tag, record_of_answer}
use Rattle.calls.specs.Layout.{kind_of}
use Rattle.record_bytes.specs.Encoding.{decoded, records_of}
use Rattle.balzenoh.specs.Exports.{lent_rows, lent, lent_record, seal_run_bytes, not_record, not_records, join_bytes, join_list_bytes, close_bytes, test_bytes}
use Rattle.balzenoh.specs.Promises.{OneOf, Promised, PromisedRun, Promises}

-- ---- zeros

-- of the outcome of any call
zero-after : {A : Type 0} (d : Answer A) (bytes : List ℕ) (room : ℕ) → (number (outcome_by d bytes room).answer ≡ 0 → ⊥)
    → ((outcome_by d bytes room).output ≡ zeros room) × ((outcome_by d bytes room).reported ≡ 0)
unfolding outcome_by number
zero-after (refused n) bytes room h = (refl, refl)
zero-after (given a) bytes room h = absurd (h refl)

-- with room for the answer, the only refusal is the call's
call_refused : (f n : ℕ) (bytes : List ℕ) (room : ℕ) → ltb room n ≡ false → (number (lent f n bytes room).answer ≡ 0 → ⊥) → f ≡ 0 → ⊥
unfolding lent outcome_by decide number
call_refused f n bytes room e h z = h (ap (λ (t : Bool). number (outcome_by (cond (not (eqb f 0)) (refused f) (cond t (refused 5) (given bytes))) bytes room).answer) e ∙ ap (λ (k : ℕ). number (outcome_by (cond (not (eqb k 0)) (refused k) (given bytes)) bytes room).answer) z)

-- ---- numbers

-- the test of it
abbrev is_one_of : List ℕ → ℕ → Bool
is_one_of [] n = false
is_one_of (k ∷ ks) n = eqb n k || is_one_of ks n

tested : (ks : List ℕ) (n : ℕ) → T (is_one_of ks n) → OneOf ks n
unfolding OneOf
tested [] n t = t
tested (k ∷ ks) n t = by (eqb n k) refl t (tested ks n)
  where
    by : (b : Bool) → eqb n k ≡ b → T (b || is_one_of ks n) → (T (is_one_of ks n) → OneOf ks n) → OneOf (k ∷ ks) n
    by true e t others = inl (eqb-true n k e)
    by false e t others = inr (others t)

-- of each row, and of 0 where none holds
abbrev AllOneOf : List ℕ → List (ℕ × Bool) → Type 0
AllOneOf ks [] = OneOf ks 0
AllOneOf ks (row ∷ rows) = OneOf ks row.0 × AllOneOf ks rows

abbrev are_one_of : List ℕ → List (ℕ × Bool) → Bool
are_one_of ks [] = is_one_of ks 0
are_one_of ks (row ∷ rows) = is_one_of ks row.0 && are_one_of ks rows

all_tested : (ks : List ℕ) (rows : List (ℕ × Bool)) → T (are_one_of ks rows) → AllOneOf ks rows
all_tested ks [] t = tested ks 0 t
all_tested ks (row ∷ rows) t = by (is_one_of ks row.0) refl t (all_tested ks rows)
  where
    by : (b : Bool) → is_one_of ks row.0 ≡ b → T (b && are_one_of ks rows) → (T (are_one_of ks rows) → AllOneOf ks rows) → AllOneOf ks (row ∷ rows)
    by true e t others = (tested ks row.0 (rw e tt), others t)
    by false e t others = absurd t

of_rows : {A : Type 0} (ks : List ℕ) (rows : List (ℕ × Bool)) (a : A) → AllOneOf ks rows → OneOf ks (number (decide rows a))
unfolding decide number
of_rows ks [] a h = h
of_rows ks (row ∷ rows) a h = by row.1 (of_rows ks rows a h.1)
  where
    by : (b : Bool) → OneOf ks (number (decide rows a)) → OneOf ks (number (cond b (refused row.0) (decide rows a)))
    by true others = h.0
    by false others = others

by_rows : {A : Type 0} (ks : List ℕ) (rows : List (ℕ × Bool)) (a : A) → T (are_one_of ks rows) → OneOf ks (number (decide rows a))
by_rows ks rows a t = of_rows ks rows a (all_tested ks rows t)

-- the same of the number that the code's refusal has
kept : {A B : Type 0} (ks : List ℕ) (f : A → B) (rows : List (ℕ × Bool)) (a : A) → Answered (decide rows a) → T (are_one_of ks rows) → OneOf ks (number_in (answered f (decide rows a)))
kept ks f rows a h t = subst (OneOf ks) (sym (number_kept f (decide rows a) h)) (by_rows ks rows a t)

-- of a number by cases
by_cases : {A : Type 0} (ks : List ℕ) (f : A → ℕ) (b : Bool) (x y : A) → OneOf ks (f x) → OneOf ks (f y) → OneOf ks (f (cond b x y))
by_cases ks f true x y h k = h
by_cases ks f false x y h k = k

-- ---- both

number_out : {A : Type 0} (d : Answer A) (bytes : List ℕ) (room : ℕ) → number (outcome_by d bytes room).answer ≡ number d
unfolding outcome_by number
number_out (refused n) bytes room = refl
number_out (given a) bytes room = refl

promised : {A : Type 0} (ks : List ℕ) (d : Answer A) (bytes : List ℕ) (room : ℕ) → OneOf ks (number d) → Promised ks (outcome_by d bytes room) room
promised ks d bytes room h = record { numbered = rw (number_out d bytes room) h; zero = zero-after d bytes room }

-- of a record or a tag that is lent
lent_promised : (ks : List ℕ) (f n : ℕ) (bytes : List ℕ) (room : ℕ) → OneOf ks f → T (is_one_of ks 5) → T (is_one_of ks 0) → Promised ks (lent f n bytes room) room
unfolding lent
lent_promised ks f n bytes room h five none = promised ks (decide (lent_rows f room n) bytes) bytes room (of_rows ks (lent_rows f room n) bytes (h, (tested ks 5 five, tested ks 0 none)))

-- of a run: the ciphertext, its length and the record
run_promised : (key iv : List ℕ) (first last : ℕ) (bytes : List ℕ) (size room : ℕ)
    → PromisedRun (0 ∷ 1 ∷ 2 ∷ 3 ∷ 4 ∷ 10 ∷ 5 ∷ []) (seal_run_bytes key iv first last bytes size room) size room
unfolding seal_run_bytes seal_run
run_promised key iv first last bytes size room =
    record { numbered = lent_run.numbered; zero = λ h. let x = by (ltb room 24) refl h in (x.0, (x.1, (lent_run.zero h).0)) }
  where
    kind : Kind
    kind = kind_of (not (eqb last 0))

    blocks : List (List ℕ)
    blocks = blocks_of_run kind bytes

    d : Answer RunRecord
    d = decide (seal_run_rows aes key iv first kind bytes size) (run_record in_words aes plaintext key iv first blocks)

    text : List ℕ
    text = (pass_from aes plaintext key iv first blocks).output

    numbers : List ℕ
    numbers = 0 ∷ 1 ∷ 2 ∷ 3 ∷ 4 ∷ 10 ∷ 5 ∷ []

    refusal : OneOf numbers (number (outcome_by d text size).answer)
    refusal = (promised numbers d text size (by_rows numbers (seal_run_rows aes key iv first kind bytes size) _ tt)).numbered

    same : number_in (record_of_answer (outcome_by d text size).answer) ≡ number (outcome_by d text size).answer
    same = number_kept (λ r. r) (outcome_by d text size).answer (answers (outcome_by d text size) size (demand1.of_seal_run key iv first kind bytes size))

    lent_run : Promised numbers (lent_record (record_of_answer (outcome_by d text size).answer) room) room
    lent_run = lent_promised numbers _ 24 _ room (subst (OneOf numbers) (sym same) refusal) tt tt

    by : (t : Bool) → ltb room 24 ≡ t → (number (lent_record (record_of_answer (outcome_by d text size).answer) room).answer ≡ 0 → ⊥)
        → (cond t (zeros size) (outcome_by d text size).output ≡ zeros size) × (cond t 0 (outcome_by d text size).reported ≡ 0)
    by true e h = (refl, refl)
    by false e h = zero-after d text size (λ z. call_refused _ 24 _ room e h (same ∙ z))

-- ---- the functions

pub promises : Promises
unfolding seal open_sealed open_rows_within check_run join_two join_list close test jump_mask sha1_text join_bytes join_list_bytes close_bytes test_bytes number number_in answered
promises =
    record {
      of_seal = λ t key iv message room. promised _ _ _ room (by_rows _ (seal_rows t aes key iv message room) _ tt);
      of_open = λ t key sealed room. promised _ _ _ room (by_rows _ (open_rows t aes key sealed room) _ tt);
      of_seal_run = run_promised;
      of_check_run = λ key iv first bytes room. lent_promised _ _ 24 _ room (kept _ (λ r. r) (check_run_rows aes key iv first bytes) _ (demand1.of_check_run key iv first bytes) tt) tt tt;
      of_join =
          λ l r room. lent_promised _ _ 24 _ room (by_cases _ number_in (not_record l || not_record r) _ _ (tested _ 24 tt) (kept _ (λ r. r) (join_two_rows in_words (decoded l) (decoded r)) _ (demand1.of_join (decoded l) (decoded r)) tt)) tt tt;
      of_join_list =
          λ b room. lent_promised _ _ 24 _ room (by_cases _ number_in (not_records b) _ _ (tested _ 24 tt) (kept _ (λ r. r) (join_list_rows in_words (records_of b)) _ (demand1.of_join_list (records_of b)) tt)) tt tt;
      of_close =
          λ t key iv r room. lent_promised _ _ t.tag_length _ room (by_cases _ number_in (not_record r) _ _ (tested _ 24 tt) (kept _ held_tag (close_rows in_words aes key iv (decoded r)) _ (demand1.of_close t key iv (decoded r)) tt)) tt tt;
      of_test =
          λ t key iv r tag. by_cases _ (λ (n : ℕ). n) (not_record r) _ _ (tested _ 24 tt) (by_rows _ (test_rows in_words t aes key iv (decoded r) tag) _ tt);
      of_jump = λ mask distance room. promised _ _ _ room (by_rows _ (jump_rows mask distance room) _ tt);
      of_sha1 = λ text room. promised _ _ _ room (by_rows _ (sha1_rows text room) _ tt);
    }
