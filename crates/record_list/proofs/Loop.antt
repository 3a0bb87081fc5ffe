-- A loop over a list of records, one record joined on at each turn.
use mathlib.Core.Path.{◌≡◌, refl, sym, ap, subst, ◌∙◌}
use mathlib.Core.Bool.{Bool, true, false, cond}
use mathlib.Core.List.{List}
use Prim.Native.Nat.{ℕ, ◌+◌, ◌≤◌, ◌<◌, ◌^◌}
use native.Mathlib.Omega.{arith}
use native.Mathlib.Numerals.{add-one}
use lib.ListN.{length, get_or, drop, drop_of_length-le}
use lib.Seq.{drop-cons}
use Rattle.mode.specs.Mode.{in_words}
use Rattle.mode.specs.declared.RunRecord.{RunRecord}
use Rattle.std.specs.Prelude.{Result, Ok, Err}
use Rattle.mode.specs.declared.refusal.Refusal.{Refusal}
use Rattle.mode.specs.declared.power.LastPower.{LastPower}
use Rattle.mode.specs.declared.KeptAnswer.{KeptAnswer}
use Rattle.mode.specs.Table.{Answer, refused, given}
use Rattle.mode.specs.Calls.{join_two}
use Rattle.mode.specs.Powers.{no_power, IsPower, Keeps, worked_out, is_kept, power_for, kept_after, join_keeping}
use Rattle.mode.proofs.Powers.{keeps_none, worked_right}
use Rattle.record_list.specs.Onto.{started, onto_answer, onto_of, onto_all}
use Rattle.record_list.specs.Counted.{Counted, powers_of, joined_front}
use Rattle.record_list.proofs.Fold.{list_joined}
use Rattle.record_list.proofs.Powers.{total_powers, whole-front}

-- the kept power is the variable to its count, and no more were worked out than records were joined on
pub record Right (i : ℕ) (k : LastPower) : Type 0 where
  pub right : IsPower k.kept
  pub few : k.total ≤ i

-- what the join asks of it
pub right_keeps : (i : ℕ) (k : LastPower) → Right i k → i + 1 < 2 ^ 64 → Keeps k
right_keeps i k h l = record { right = h.right; room = let f = h.few in omega arith }

-- nothing is kept at first
pub right_start : Right 0 no_power
right_start = record { right = keeps_none.right; few = omega arith }

-- ---- one record more keeps a right power

module _ (i : ℕ) where
  right_later : (k : LastPower) → Right i k → Right (i + 1) k
  right_later k h = record { right = h.right; few = let f = h.few in omega arith }

  right_for : (k : LastPower) (n : ℕ) → Right i k → Right (i + 1) (power_for k n)
  unfolding power_for worked_out
  right_for k n h = by (is_kept k.kept n)
    where
      by : (b : Bool) → Right (i + 1) (cond b k (worked_out k n))
      by true = right_later k h
      by false = record { right = worked_right n; few = let f = h.few in omega arith }

  right_after : (a : Answer RunRecord) (k : LastPower) (n : ℕ) → Right i k → Right (i + 1) (kept_after a k n)
  unfolding kept_after
  right_after (refused m) k n h = right_later k h
  right_after (given r) k n h = right_for k n h

  right_answer : (a : Result RunRecord Refusal) (k : LastPower) (r : RunRecord) → Right i k → Right (i + 1) (onto_answer a k r).last
  unfolding onto_answer join_keeping
  right_answer (Ok run) k r h = right_after (join_two in_words run r) k r.count h
  right_answer (Err refusal) k r h = right_later k h

  pub right_onto : (s : KeptAnswer) (r : RunRecord) → Right i s.last → Right (i + 1) (onto_of s r).last
  right_onto s r h = right_answer s.answer s.last r h

-- ---- the loop's invariant

-- the answer after i of the records: what the others make of it is what all make of the start
pub record Going (rs : List RunRecord) (i : ℕ) (s : KeptAnswer) : Type 0 where
  pub left : onto_all s (drop i rs) ≡ onto_all started rs
  pub last : Right i s.last

module _ (rs : List RunRecord) where
  pub begins : (s : KeptAnswer) → s ≡ started → Going rs 0 s
  begins s e = subst (Going rs 0) (sym e) (record { left = refl; last = right_start })

  module _ (i : ℕ) (s : KeptAnswer) (now : Going rs i s) where
    -- what the step asks
    pub keeps : i + 1 < 2 ^ 64 → Keeps s.last
    keeps h = right_keeps i s.last now.last h

    pub turn : (d : RunRecord) (next : KeptAnswer) → i < length rs → next ≡ onto_of s (get_or rs i d) → Going rs (i + 1) next
    unfolding onto_all
    turn d next l e =
        subst (Going rs (i + 1)) (sym e)
        (record { left = sym (ap (onto_all s) (drop-cons rs i d l) ∙ rw add-one) ∙ now.left; last = right_onto i s (get_or rs i d) now.last })

    -- nothing is left
    pub ends : length rs ≤ i → Counted rs s
    unfolding onto_all
    ends h =
        let f = sym (ap (onto_all s) (drop_of_length-le rs h)) ∙ now.left ∙ list_joined rs in
        let a = ap (λ (z : KeptAnswer). z.answer) f in
        let t = ap (λ (z : KeptAnswer). z.last.total) f ∙ total_powers (joined_front rs) in
        record {
          answer = a;
          joined = λ g. t ∙ ap powers_of (whole-front rs (sym a ∙ g));
          front = t;
        }
