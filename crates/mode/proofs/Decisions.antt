-- The rows of the table decide a call: what it answers, and what a call that writes comes to. From this alone: demand 1 and demand 2 (c).
use mathlib.Core.Path.{◌≡◌, refl, sym, ap, subst, ◌∙◌}
use mathlib.Core.Logic.{inl, inr, ◌↔◌}
use mathlib.Core.List.{List, [], ◌∷◌, ◌++◌}
use mathlib.Core.Bool.{Bool, true, false, cond}
use Prim.Native.Nat.{ℕ}
use native.Mathlib.Omega.{arith}
use lib.Dec.{T, eqb, ltb}
use borrow.Author.Tests.{eq-eqb, ltb-true}
use Rattle.mode.specs.Mode.{Cipher, in_words}
use Rattle.mode.specs.Table.{Answer, refused, given, decide, table_order, open_order, in_order, NoneHolds, Decides}
use Rattle.mode.specs.Calls.{Outcome, outcome_by, seal, seal_rows, open_sealed, open_rows, open_rows_within, pass_from, run_record, seal_run, seal_run_rows, check_run, check_run_rows, joined, join_two, join_two_rows, join_list, join_list_rows, closing_tag, close, close_rows, test, test_rows, jump_mask, jump_rows, sha1_text, sha1_rows}
use Rattle.mode.specs.Demands.{Gives, Refuses, Answered, AnsweredInto, Demand1, Decided, DecidedInto, Demand2c}
use Rattle.mode.proofs.Rows.{outcome_refused, outcome_given}

-- ---- rows

pub given_rows : {A : Type 0} (rows : List (ℕ × Bool)) (a m : A) → decide rows a ≡ given m → NoneHolds rows × (a ≡ m)
unfolding decide
given_rows [] a m e = (tt, (cc))
given_rows (row ∷ rows) a m e = by row.1 refl e (given_rows rows a m)
  where
    by : (t : Bool) → row.1 ≡ t → cond t (refused row.0) (decide rows a) ≡ given m → (decide rows a ≡ given m → NoneHolds rows × (a ≡ m)) → NoneHolds (row ∷ rows) × (a ≡ m)
    by true p e rec = absurd (let z : ◌≡◌ {A = ℕ} 0 1 = cc in omega arith)
    by false p e rec = ((p, (rec e).0), (rec e).1)

pub passed_rows : {A : Type 0} (rows : List (ℕ × Bool)) (a : A) → NoneHolds rows → decide rows a ≡ given a
unfolding decide
passed_rows [] a h = refl
passed_rows (row ∷ rows) a h = rw h.0 (passed_rows rows a h.1)

pub refuses : {A : Type 0} (above below : List (ℕ × Bool)) (a : A) (n : ℕ) → NoneHolds above → decide (above ++ (n, true) ∷ below) a ≡ refused n
unfolding decide
refuses [] below a n h = refl
refuses (row ∷ above) below a n h = rw h.0 (refuses above below a n h.1)

decides : {A : Type 0} (rows : List (ℕ × Bool)) (a : A) (n : ℕ) → decide rows a ≡ refused n → Decides rows n
unfolding decide
decides [] a n e = absurd (let z : ◌≡◌ {A = ℕ} 0 1 = cc in omega arith)
decides (row ∷ rows) a n e = by row.1 refl e (decides rows a n)
  where
    by : (t : Bool) → row.1 ≡ t → cond t (refused row.0) (decide rows a) ≡ refused n → (decide rows a ≡ refused n → Decides rows n) → Decides (row ∷ rows) n
    by true p e rec =
        let m : row.0 ≡ n = cc in
        record { above = []; below = rows; rows_are = (λ i. (m i, p i) ∷ rows); none_above = tt }
    by false p e rec =
        let d = rec e in
        record { above = row ∷ d.above; below = d.below; rows_are = ap (λ (t : List (ℕ × Bool)). row ∷ t) d.rows_are; none_above = (p, d.none_above) }

-- each number is returned if and only if its row's condition holds and no higher row's does
first_row_lem : {A : Type 0} (rows : List (ℕ × Bool)) (a : A) (n : ℕ) → (decide rows a ≡ refused n) ↔ Decides rows n
first_row_lem rows a n = (decides rows a n, λ d. rw d.rows_are (refuses d.above d.below a n d.none_above))

-- whether no row has the number n
abbrev pub lacks : ℕ → List (ℕ × Bool) → Bool
lacks n [] = true
lacks n (row ∷ rows) = cond (eqb row.0 n) false (lacks n rows)

-- where a number is returned that the last row alone has, it holds and none above it does
pub last_row : {A : Type 0} (rows : List (ℕ × Bool)) (n : ℕ) (b : Bool) (a : A) → lacks n rows ≡ true → decide (rows ++ (n, b) ∷ []) a ≡ refused n → NoneHolds rows × (b ≡ true)
unfolding decide
last_row [] n true a l e = (tt, refl)
last_row [] n false a l e = absurd (let z : ◌≡◌ {A = ℕ} 0 1 = cc in omega arith)
last_row (row ∷ rows) n b a l e = by row.1 (eqb row.0 n) refl refl l e (last_row rows n b a)
  where
    by : (t s : Bool) → row.1 ≡ t → eqb row.0 n ≡ s → cond s false (lacks n rows) ≡ true → cond t (refused row.0) (decide (rows ++ (n, b) ∷ []) a) ≡ refused n
        → (lacks n rows ≡ true → decide (rows ++ (n, b) ∷ []) a ≡ refused n → NoneHolds rows × (b ≡ true)) → NoneHolds (row ∷ rows) × (b ≡ true)
    by t true p q l e rec = absurd (let z : ◌≡◌ {A = ℕ} 0 1 = cc in omega arith)
    by true false p q l e rec = absurd (let m : row.0 ≡ n = cc in let z = sym q ∙ eq-eqb row.0 n m in let y : ◌≡◌ {A = ℕ} 0 1 = cc in omega arith)
    by false false p q l e rec = let h = rec l e in ((p, h.0), h.1)

-- ---- outcomes

pub outcome_answer : {A : Type 0} (a : Answer A) (bytes : List ℕ) (room : ℕ) → (outcome_by a bytes room).answer ≡ a
unfolding outcome_by
outcome_answer (refused n) bytes room = refl
outcome_answer (given m) bytes room = refl

pub outcome_gives : {A : Type 0} (d : Answer A) (a : A) (bytes : List ℕ) (room : ℕ) → d ≡ given a → Gives (outcome_by d bytes room) a bytes room
outcome_gives {A} d a bytes room e =
    let o = outcome_given d bytes room a e in
    record { answers = ap (λ (x : Outcome A). x.answer) o; reports = ap (λ (x : Outcome A). x.reported) o; writes = ap (λ (x : Outcome A). x.output) o }

pub outcome_refuses : {A : Type 0} (d : Answer A) (bytes : List ℕ) (room n : ℕ) → d ≡ refused n → Refuses (outcome_by d bytes room) n room
outcome_refuses {A} d bytes room n e =
    let o = outcome_refused d bytes room n e in
    record { answers = ap (λ (x : Outcome A). x.answer) o; reports = ap (λ (x : Outcome A). x.reported) o; writes = ap (λ (x : Outcome A). x.output) o }

-- where bytes are the answer, what is answered is what is written
pub outcome_given_bytes : (rows : List (ℕ × Bool)) (a m : List ℕ) (room : ℕ) → (outcome_by (decide rows a) a room).answer ≡ given m
    → (m ≡ a) × Gives (outcome_by (decide rows a) a room) m m room
outcome_given_bytes rows a m room e =
    let g = given_rows rows a m (sym (outcome_answer (decide rows a) a room) ∙ e) in
    (sym g.1, subst (λ (x : List ℕ). Gives (outcome_by (decide rows a) a room) x x room) g.1 (outcome_gives (decide rows a) a a room (passed_rows rows a g.0)))

-- ---- demand 1

in_table : List (ℕ × Bool) → Bool
in_table [] = true
in_table (row ∷ rows) = cond (ltb 0 row.0) (cond (ltb row.0 11) (in_table rows) false) false

answered : {A : Type 0} (rows : List (ℕ × Bool)) (a : A) → T (in_table rows) → Answered (decide rows a)
unfolding decide in_table
answered [] a t = inl (a, refl)
answered (row ∷ rows) a t = by (ltb 0 row.0) (ltb row.0 11) row.1 refl refl t (answered rows a)
  where
    by : (low high holds : Bool) → ltb 0 row.0 ≡ low → ltb row.0 11 ≡ high → T (cond low (cond high (in_table rows) false) false)
        → (T (in_table rows) → Answered (decide rows a)) → Answered (cond holds (refused row.0) (decide rows a))
    by true true true l h t rec = inr (row.0, ((ltb-true 0 row.0 l, (let u = ltb-true row.0 11 h in omega (arith, u))), refl))
    by true true false l h t rec = rec t
    by true false holds l h t rec = absurd t
    by false high holds l h t rec = absurd t

answered_into : {A : Type 0} (rows : List (ℕ × Bool)) (a : A) (bytes : List ℕ) (room : ℕ) → T (in_table rows) → AnsweredInto (outcome_by (decide rows a) bytes room) room
answered_into {A} rows a bytes room t = by (answered rows a t)
  where
    by : Answered (decide rows a) → AnsweredInto (outcome_by (decide rows a) bytes room) room
    by (inl g) = inl (g.0, bytes, outcome_gives (decide rows a) g.0 bytes room g.1)
    by (inr r) = inr (r.0, (r.1.0, outcome_refuses (decide rows a) bytes room r.0 r.1.1))

pub demand1 : (c : Cipher) → Demand1 c
unfolding seal open_sealed open_rows_within seal_run check_run join_two join_list close test jump_mask sha1_text in_table
demand1 c =
    record {
      of_seal = λ t key iv message room. answered_into (seal_rows t c key iv message room) _ _ room tt;
      of_open = λ t key sealed room. answered_into (open_rows t c key sealed room) _ _ room tt;
      of_seal_run = λ key iv first kind bytes room. answered_into (seal_run_rows c key iv first kind bytes room) _ _ room tt;
      of_check_run = λ key iv first bytes. answered (check_run_rows c key iv first bytes) _ tt;
      of_join = λ l r. answered (join_two_rows in_words l r) _ tt;
      of_join_list = λ rs. answered (join_list_rows in_words rs) _ tt;
      of_close = λ t key iv r. answered (close_rows in_words c key iv r) _ tt;
      of_test = λ t key iv r tag. answered (test_rows in_words t c key iv r tag) tt tt;
      of_jump = λ mask distance room. answered_into (jump_rows mask distance room) _ _ room tt;
      of_sha1 = λ text room. answered_into (sha1_rows text room) _ _ room tt;
    }

-- ---- demand 2 (c)

decided : {A : Type 0} (order : List ℕ) (rows : List (ℕ × Bool)) (a : A) → in_order order rows ≡ true → Decided order rows (decide rows a) a
decided {A} order rows a o =
    record {
      in-order = o;
      refuses = first_row_lem rows a;
      gives = λ x. (given_rows rows a x, λ h. passed_rows rows a h.0 ∙ ap (λ (y : A). given y) h.1);
    }

decided_into : {A : Type 0} (order : List ℕ) (rows : List (ℕ × Bool)) (a : A) (bytes : List ℕ) (room : ℕ) → in_order order rows ≡ true
    → DecidedInto order rows (outcome_by (decide rows a) bytes room) a bytes room
decided_into order rows a bytes room o =
    record {
      decided = rw (outcome_answer (decide rows a) bytes room) (decided order rows a o);
      none_holds = λ h. outcome_gives (decide rows a) a bytes room (passed_rows rows a h);
      one_holds = λ n d. outcome_refuses (decide rows a) bytes room n ((first_row_lem rows a n).1 d);
    }

pub demand2c : (c : Cipher) → Demand2c c
unfolding seal open_sealed open_rows_within seal_run run_record pass_from check_run joined join_two join_list closing_tag close test jump_mask sha1_text in_order
demand2c c =
    record {
      of_seal = λ t key iv message room. decided_into table_order (seal_rows t c key iv message room) _ _ room refl;
      of_open = λ t key sealed room. decided_into open_order (open_rows t c key sealed room) _ _ room refl;
      of_seal_run = λ key iv first kind bytes room. decided_into table_order (seal_run_rows c key iv first kind bytes room) _ _ room refl;
      of_check_run = λ key iv first bytes. decided table_order (check_run_rows c key iv first bytes) _ refl;
      of_join = λ l r. decided table_order (join_two_rows in_words l r) _ refl;
      of_join_list = λ rs. decided table_order (join_list_rows in_words rs) _ refl;
      of_close = λ t key iv r. decided table_order (close_rows in_words c key iv r) _ refl;
      of_test = λ t key iv r tag. decided table_order (test_rows in_words t c key iv r tag) tt refl;
      of_jump = λ mask distance room. decided_into table_order (jump_rows mask distance room) _ _ room refl;
      of_sha1 = λ text room. decided_into table_order (sha1_rows text room) _ _ room refl;
    }
