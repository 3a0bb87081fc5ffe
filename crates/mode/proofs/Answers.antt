-- From the rows of a call and what its work gives to the call's answer and output.
use mathlib.Core.Path.{◌≡◌, refl, sym, ap, ◌∙◌}
use mathlib.Core.Bool.{Bool, true, false, cond, not}
use mathlib.Core.List.{List, [], ◌∷◌, ◌++◌}
use Prim.Native.Nat.{ℕ, zero, suc, ◌-◌}
use native.Mathlib.Omega.{arith}
use lib.Dec.{T}
use lib.ListN.{length}
use Rattle.std.specs.Prelude.{Result, Ok, Err}
use Rattle.blocks.specs.Bytes.{zeros}
use Rattle.mode.specs.declared.RunRecord.{RunRecord}
use Rattle.mode.specs.Table.{Answer, refused, given, decide, first_row}
use Rattle.mode.specs.Refusals.{Refusal, KeyLength, IvLength, Length, BeyondLimit, OutputTooShort, TagDiffers, Padding, NotNeighbours, NotWhole, ZeroMask, RecordLength, number_of, refusal_of, answered, passed}
use Rattle.mode.specs.Calls.{Outcome, outcome_by, written_of, sealed_run_of, test_of_answer}
use Rattle.mode.proofs.Rows.{numbered, front-refuses, first-refuses, first_passes, no_more_rows, outcome_refused, outcome_given}

-- ---- the refusals and their numbers

-- a number and the refusal that has it
pub named : (r : Refusal) → refusal_of (number_of r) ≡ r
unfolding refusal_of
named KeyLength = refl
named IvLength = refl
named Length = refl
named BeyondLimit = refl
named OutputTooShort = refl
named TagDiffers = refl
named Padding = refl
named NotNeighbours = refl
named NotWhole = refl
named ZeroMask = refl
named RecordLength = refl

-- the first row has this refusal's number
pub refuses_by : (r : Refusal) {n : ℕ} → n ≡ number_of r → Err r ≡ passed n
unfolding passed refusal_of
refuses_by KeyLength e = sym (ap passed e)
refuses_by IvLength e = sym (ap passed e)
refuses_by Length e = sym (ap passed e)
refuses_by BeyondLimit e = sym (ap passed e)
refuses_by OutputTooShort e = sym (ap passed e)
refuses_by TagDiffers e = sym (ap passed e)
refuses_by Padding e = sym (ap passed e)
refuses_by NotNeighbours e = sym (ap passed e)
refuses_by NotWhole e = sym (ap passed e)
refuses_by ZeroMask e = sym (ap passed e)
refuses_by RecordLength e = sym (ap passed e)

-- no row holds
pub lets_pass : {n : ℕ} → n ≡ 0 → Ok tt ≡ passed n
unfolding passed
lets_pass e = sym (ap passed e)

-- and what each says of the first row
pub has_passed : (n : ℕ) {u : Unit {0}} → Ok u ≡ passed n → n ≡ 0
unfolding passed
has_passed zero e = refl
has_passed (suc n) e = grind arith

pub has_refused : (n : ℕ) {r : Refusal} → Err r ≡ passed n → (n ≡ 0 → ⊥) × (r ≡ refusal_of n)
unfolding passed
has_refused zero e = grind arith
has_refused (suc n) e = (λ z. omega arith, grind arith)

-- a refusal by the first rows is one by all
pub refuses_all : (rows more : List (ℕ × Bool)) {r : Refusal} → Err r ≡ passed (first_row rows) → Err r ≡ passed (first_row (rows ++ more))
refuses_all rows more e = e ∙ ap passed (sym (front-refuses rows more (first_row rows) refl (has_refused (first_row rows) e).0))

-- ---- rows that decide all

module _ {A : Type 0} (rows : List (ℕ × Bool)) (a : A) where
  nothing-after : rows ++ [] ≡ rows
  nothing-after = go rows
    where
      go : (xs : List (ℕ × Bool)) → xs ++ [] ≡ xs
      go [] = refl
      go (x ∷ xs) = ap (λ (t : List (ℕ × Bool)). x ∷ t) (go xs)

  pub refuses : {r : Refusal} → Err r ≡ passed (first_row rows) → (decide rows a ≡ refused (first_row rows)) × (r ≡ refusal_of (first_row rows))
  refuses e =
      let h = has_refused (first_row rows) e in
      (ap (λ (r : List (ℕ × Bool)). decide r a) (sym nothing-after) ∙ first-refuses rows [] a (first_row rows) refl h.0, h.1)

  pub gives : {u : Unit {0}} → T (numbered rows) → Ok u ≡ passed (first_row rows) → decide rows a ≡ given a
  gives t e = ap (λ (r : List (ℕ × Bool)). decide r a) (sym nothing-after) ∙ first_passes rows [] a t (has_passed (first_row rows) e) ∙ no_more_rows a

-- ---- answers

module _ {A B : Type 0} (f : A → B) (d : Answer A) where
  pub refused_answer : {r : Refusal} {n : ℕ} → d ≡ refused n → r ≡ refusal_of n → Err r ≡ answered f d
  unfolding answered
  refused_answer e h = ap (λ (r : Refusal). Err r) h ∙ sym (ap (answered f) e)

  pub given_answer : (x : A) → d ≡ given x → Ok (f x) ≡ answered f d
  unfolding answered
  given_answer x e = sym (ap (answered f) e)

-- ---- outcomes

module _ {A : Type 0} (d : Answer A) (bytes : List ℕ) (room : ℕ) where
  pub refused_written : {r : Refusal} {n : ℕ} → d ≡ refused n → r ≡ refusal_of n → Err r ≡ written_of (outcome_by d bytes room)
  unfolding answered
  refused_written {n = n} e h = ap (λ (r : Refusal). Err r) h ∙ sym (ap written_of (outcome_refused d bytes room n e))

  pub refused_output : {n : ℕ} → d ≡ refused n → zeros room ≡ (outcome_by d bytes room).output
  refused_output {n} e = sym (ap (λ (o : Outcome A). o.output) (outcome_refused d bytes room n e))

  pub given_written : (x : A) (n : ℕ) → d ≡ given x → length bytes ≡ n → Ok n ≡ written_of (outcome_by d bytes room)
  unfolding answered
  given_written x n e l = sym (ap written_of (outcome_given d bytes room x e) ∙ ap (λ (k : ℕ). Ok k) l)

  pub given_output : (x : A) (n : ℕ) → d ≡ given x → length bytes ≡ n → bytes ++ zeros (room - n) ≡ (outcome_by d bytes room).output
  given_output x n e l = sym (ap (λ (o : Outcome A). o.output) (outcome_given d bytes room x e) ∙ ap (λ (k : ℕ). bytes ++ zeros (room - k)) l)

-- ---- runs

module _ (d : Answer RunRecord) (bytes : List ℕ) (room : ℕ) where
  pub refused_run : {r : Refusal} {n : ℕ} → d ≡ refused n → r ≡ refusal_of n → Err r ≡ sealed_run_of (outcome_by d bytes room)
  unfolding answered
  refused_run {n = n} e h = ap (λ (r : Refusal). Err r) h ∙ sym (ap sealed_run_of (outcome_refused d bytes room n e))

  pub given_run : (r : RunRecord) (n : ℕ) → d ≡ given r → length bytes ≡ n → Ok (record { length = n; run = r }) ≡ sealed_run_of (outcome_by d bytes room)
  unfolding answered
  given_run r n e l = sym (ap sealed_run_of (outcome_given d bytes room r e) ∙ ap (λ (k : ℕ). Ok (record { length = k; run = r })) l)

-- ---- a test: the last row is 6

pub test_refused : (rows more : List (ℕ × Bool)) {r : Refusal} → Err r ≡ passed (first_row rows) → Err r ≡ test_of_answer (decide {A = Unit {0}} (rows ++ more) tt)
test_refused rows more e =
    let h = has_refused (first_row rows) e in
    refused_answer (λ (u : Unit {0}). u) (decide (rows ++ more) tt) (first-refuses rows more tt (first_row rows) refl h.0) h.1

-- whether the tags are the same
abbrev pub compared : Bool → Result (Unit {0}) Refusal
compared true = Ok tt
compared false = Err TagDiffers

pub test_answer : (rows : List (ℕ × Bool)) (t : Bool) {u : Unit {0}} → T (numbered rows) → Ok u ≡ passed (first_row rows)
    → compared t ≡ test_of_answer (decide {A = Unit {0}} (rows ++ ((6, not t) ∷ [])) tt)
unfolding answered decide refusal_of
test_answer rows t n e = by t ∙ sym (ap test_of_answer (first_passes rows ((6, not t) ∷ []) tt n (has_passed (first_row rows) e)))
  where
    by : (t : Bool) → compared t ≡ test_of_answer (cond (not t) (refused 6) (given tt))
    by true = refl
    by false = refl
