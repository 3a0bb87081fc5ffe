-- An answer that is written to a lent output.
use mathlib.Core.Path.{◌≡◌, refl, sym, ap, ◌∙◌}
use mathlib.Core.Bool.{Bool, true, false, cond}
use mathlib.Core.List.{List, ◌++◌}
use Prim.Native.Nat.{ℕ, ◌-◌, ◌≤◌, ◌<◌}
use native.Mathlib.Omega.{arith}
use lib.Dec.{eqb, ltb}
use lib.ListN.{length}
use borrow.Author.Tests.{ltb-false, lt-ltb, le-ltb}
use Rattle.std.specs.Prelude.{Result, Ok, Err}
use Rattle.blocks.specs.Bytes.{zeros}
use Rattle.mode.specs.declared.refusal.Refusal.{Refusal}
use Rattle.mode.specs.declared.refusal.Refusal.TheVariants.{KeyLength, IvLength, Length, BeyondLimit, OutputTooShort, TagDiffers, Padding, NotNeighbours, NotWhole, ZeroMask, RecordLength}
use Rattle.mode.specs.Table.{Answer, refused, given, decide}
use Rattle.mode.specs.Refusals.{number_of, number_in}
use Rattle.mode.specs.Calls.{Outcome, number}
use Rattle.mode.proofs.Rows.{outcome_refused, outcome_given}
use Rattle.balzenoh.specs.Exports.{Returned, lent_rows, lent, with_room}

-- no refusal has the number 0
some_number : (r : Refusal) → eqb (number_of r) 0 ≡ false
some_number KeyLength = refl
some_number IvLength = refl
some_number Length = refl
some_number BeyondLimit = refl
some_number OutputTooShort = refl
some_number TagDiffers = refl
some_number Padding = refl
some_number NotNeighbours = refl
some_number NotWhole = refl
some_number ZeroMask = refl
some_number RecordLength = refl

-- the rows, by what is left where there is room
abbrev by_result : {A : Type 0} → Result A Refusal → List ℕ → Answer (List ℕ)
by_result (Ok x) bytes = given bytes
by_result (Err r) bytes = refused (number_of r)

module _ {A : Type 0} (room n : ℕ) where
  decided : (a : Result A Refusal) (bytes : List ℕ) → decide (lent_rows (number_in a) room n) bytes ≡ by_result (with_room a room n) bytes
  unfolding decide number_in with_room
  decided (Ok x) bytes = by (ltb room n)
    where
      by : (t : Bool) → cond t (refused 5) (given bytes) ≡ by_result (cond t (Err OutputTooShort) (Ok x)) bytes
      by true = refl
      by false = refl
  decided (Err r) bytes = rw (some_number r) refl

  pub room_short : (a : Result A Refusal) (x : A) → a ≡ Ok x → room < n → Err OutputTooShort ≡ with_room a room n
  unfolding with_room
  room_short a x e h = sym (ap (λ y. with_room y room n) e ∙ rw (lt-ltb room n h) refl)

  pub room_enough : (a : Result A Refusal) (x : A) → a ≡ Ok x → n ≤ room → Ok x ≡ with_room a room n
  unfolding with_room
  room_enough a x e h = sym (ap (λ y. with_room y room n) e ∙ rw (le-ltb room n h) refl)

  pub room_asked : (a : Result A Refusal) (r : Refusal) → a ≡ Err r → Err r ≡ with_room a room n
  unfolding with_room
  room_asked a r e = sym (ap (λ y. with_room y room n) e)

  -- there is room, and the answer is the call's
  pub room_there : (a : Result A Refusal) (x : A) → Ok x ≡ with_room a room n → (n ≤ room) × (a ≡ Ok x)
  unfolding with_room
  room_there (Ok y) x e = by (ltb room n) refl e
    where
      by : (t : Bool) → ltb room n ≡ t → ◌≡◌ {A = Result A Refusal} (Ok x) (cond t (Err OutputTooShort) (Ok y)) → (n ≤ room) × (◌≡◌ {A = Result A Refusal} (Ok y) (Ok x))
      by true u h = absurd (grind arith)
      by false u h = (ltb-false room n u, sym h)
  room_there (Err r) x e = absurd (grind arith)

  -- refused: the output is zeros
  pub lent_refused : (a : Result A Refusal) (r : Refusal) (bytes out : List ℕ) → Err r ≡ with_room a room n → out ≡ zeros room → Returned (lent (number_in a) n bytes room) (number_of r) out
  unfolding lent number
  lent_refused a r bytes out e z =
      let o = outcome_refused _ bytes room (number_of r) (decided a bytes ∙ ap (λ (x : Result A Refusal). by_result x bytes) (sym e)) in
      record { answer = sym (ap (λ (x : Outcome (List ℕ)). number x.answer) o); output = z ∙ sym (ap (λ (x : Outcome (List ℕ)). x.output) o) }

  -- given: the bytes, and zeros beyond them
  pub lent_given : (a : Result A Refusal) (x : A) (bytes out : List ℕ) → Ok x ≡ with_room a room n → length bytes ≡ n → out ≡ bytes ++ zeros (room - n) → Returned (lent (number_in a) n bytes room) 0 out
  unfolding lent number
  lent_given a x bytes out e long z =
      let o = outcome_given _ bytes room bytes (decided a bytes ∙ ap (λ (x : Result A Refusal). by_result x bytes) (sym e)) in
      record {
        answer = sym (ap (λ (x : Outcome (List ℕ)). number x.answer) o);
        output = z ∙ sym (ap (λ (x : Outcome (List ℕ)). x.output) o ∙ ap (λ (m : ℕ). bytes ++ zeros (room - m)) long);
      }
