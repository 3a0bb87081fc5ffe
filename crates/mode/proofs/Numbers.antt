-- The number that the code's refusal has is the answer's own.
use mathlib.Core.Path.{◌≡◌, refl, sym, ap, ◌∙◌}
use mathlib.Core.Bool.{Bool, true, false, ◌||◌}
use mathlib.Core.List.{List}
use mathlib.Core.Logic.{◌⊎◌, inl, inr}
use Prim.Native.Nat.{ℕ, ◌≤◌, ◌<◌}
use native.Mathlib.Omega.{arith}
use lib.Dec.{T, eqb}
use borrow.Author.Tests.{eqb-true}
use Rattle.std.specs.Result.{result_unwrap_or}
use Rattle.blocks.proofs.Test.{below}
use Rattle.mode.specs.Table.{Answer, refused, given}
use Rattle.mode.specs.Refusals.{number_of, refusal_of, answered, number_in}
use Rattle.mode.specs.Calls.{Outcome, number, written_of}
use Rattle.mode.specs.Demands.{InTable, Answered, AnsweredInto}

-- of a number of the table
in_table : (n : ℕ) → InTable n → number_of (refusal_of n) ≡ n
unfolding refusal_of
in_table n h = by (eqb (number_of (refusal_of n)) n) (eqb n 0) refl refl (below (λ k. eqb (number_of (refusal_of k)) k || eqb k 0) 11 tt n (omega (arith, h.1)))
  where
    by : (s t : Bool) → eqb (number_of (refusal_of n)) n ≡ s → eqb n 0 ≡ t → T (s || t) → number_of (refusal_of n) ≡ n
    by true t e z p = eqb-true (number_of (refusal_of n)) n e
    by false true e z p = absurd (let k = eqb-true n 0 z in omega (arith, h.0, k))
    by false false e z p = absurd p

pub number_kept : {A B : Type 0} (f : A → B) (a : Answer A) → Answered a → number_in (answered f a) ≡ number a
unfolding answered number number_in
number_kept f a (inl (x, e)) = ap (λ z. number_in (answered f z)) e ∙ sym (ap number e)
number_kept f a (inr (n, (t, e))) = ap (λ z. number_in (answered f z)) e ∙ in_table n t ∙ sym (ap number e)

-- the same of a call that writes, and of the length that it reports
module _ {A : Type 0} (o : Outcome A) (room : ℕ) where
  pub answers : AnsweredInto o room → Answered o.answer
  answers (inl (x, bytes, g)) = inl (x, g.answers)
  answers (inr (n, (t, r))) = inr (n, (t, r.answers))

  pub written_number : AnsweredInto o room → number_in (written_of o) ≡ number o.answer
  written_number h = number_kept (λ a. o.reported) o.answer (answers h)

  pub written_length : AnsweredInto o room → result_unwrap_or (written_of o) 0 ≡ o.reported
  unfolding answered
  written_length (inl (x, bytes, g)) = ap (λ (a : Answer A). result_unwrap_or (answered (λ a. o.reported) a) 0) g.answers
  written_length (inr (n, (t, r))) = ap (λ (a : Answer A). result_unwrap_or (answered (λ a. o.reported) a) 0) r.answers ∙ sym r.reports
