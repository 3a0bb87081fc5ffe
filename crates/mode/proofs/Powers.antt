-- The power that joining keeps: it is always the variable to its count, and a join of two with it gives what the join of two gives.
use mathlib.Core.Path.{◌≡◌, refl, ap, ap₂, sym, subst, ◌∙◌}
use mathlib.Core.Bool.{Bool, true, false, cond}
use mathlib.Core.List.{List}
use Prim.Native.Nat.{ℕ, ◌+◌}
use lib.Dec.{eqb, lit<}
use lib.IntN.{pos}
use borrow.Author.Tests.{eq-eqb, ne_eqb, eqb-true}
use Rattle.std.specs.Prelude.{Result, Ok, Err, Option, None, Some}
use Rattle.blocks.specs.Bytes.{xor_bytes}
use Rattle.blocks.specs.declared.words.Words.{Words}
use Rattle.blocks.specs.Words.{Proper, bytes_of, words_of}
use Rattle.blocks.proofs.Bridge.{block-bytes_of, bytes_words, words_of_lem}
use Rattle.gf128.specs.Gf128.{jump, jump_by, power, product, one}
use Rattle.gf128.proofs.TimesX.{block_one}
use Rattle.gf128.proofs.JumpBy.{block-jump_by}
use Rattle.gf128.proofs.Product.{product-power}
use Rattle.mode.specs.Mode.{RunRecord, in_words}
use Rattle.mode.specs.Table.{Answer, given, first_row}
use Rattle.mode.specs.Refusals.{Refusal, passed}
use Rattle.mode.specs.Calls.{joined, join_two, join_two_rows, record_of_answer}
use Rattle.mode.specs.declared.power.Power.{Power}
use Rattle.mode.specs.declared.power.LastPower.{LastPower}
use Rattle.mode.specs.Powers.{no_power, IsPower, Keeps, worked_out, is_kept, power_for, Joinable, kept_after, join_keeping}
use Rattle.mode.proofs.Answers.{refuses, gives, refused_answer, given_answer}

-- ---- the power for a count

-- the power that is kept, where it has the count
pub this_kept : (k : LastPower) (p : Power) (n : ℕ) → k.kept ≡ Some p → p.count ≡ n → power_for k n ≡ k
unfolding power_for is_kept
this_kept k p n e h = rw (e, eq-eqb p.count n h) refl

pub other_kept : (k : LastPower) (p : Power) (n : ℕ) → k.kept ≡ Some p → (p.count ≡ n → ⊥) → power_for k n ≡ worked_out k n
unfolding power_for is_kept
other_kept k p n e h = rw (e, ne_eqb p.count n h) refl

pub none_kept : (k : LastPower) (n : ℕ) → k.kept ≡ None → power_for k n ≡ worked_out k n
unfolding power_for is_kept
none_kept k n e = rw e refl

-- nothing is kept at first
pub keeps_none : Keeps no_power
keeps_none = record { right = tt; room = lit< tt }

-- a power that is worked out is the variable to the count
pub worked_right : (n : ℕ) → bytes_of (words_of (power (pos n))) ≡ power (pos n)
unfolding power
worked_right n = bytes_words (jump_by (pos n) one) (block-jump_by (pos n) one block_one)

-- the variable to the power n is kept
abbrev pub KeptFor : ℕ → Option Power → Type 0
KeptFor n None = ⊥
KeptFor n (Some p) = bytes_of p.power ≡ power (pos n)

-- THE POWER THAT IS USED is the variable to the count for which it is asked
pub power_right : (k : LastPower) (n : ℕ) → Keeps k → KeptFor n (power_for k n).kept
unfolding power_for is_kept worked_out
power_right k n h = by k.kept refl
  where
    by : (kept : Option Power) → k.kept ≡ kept → KeptFor n (cond (is_kept kept n) k (worked_out k n)).kept
    by None e = worked_right n
    by (Some p) e = at (eqb p.count n) refl
      where
        at : (b : Bool) → eqb p.count n ≡ b → KeptFor n (cond b k (worked_out k n)).kept
        at true v = rw e (subst IsPower e h.right ∙ ap (λ (m : ℕ). power (pos m)) (eqb-true p.count n v))
        at false v = worked_right n

-- ---- the join of two

module _ (l r : RunRecord) where
  -- the left pre-authenticator times that power, plus the right one
  pub joined_by : (p m x : Words) → Proper x → Joinable l r p → bytes_of m ≡ product (bytes_of p) (bytes_of l.preauthenticator)
      → bytes_of x ≡ xor_bytes (bytes_of m) (bytes_of r.preauthenticator)
      → record { first = l.first; count = l.count + r.count; preauthenticator = x } ≡ joined in_words l r
  unfolding joined jump_by
  joined_by p m x hx h em ex =
      let left = bytes_of l.preauthenticator in
      let j : bytes_of m ≡ jump r.count left = em ∙ ap (λ (q : List ℕ). product q left) h.right ∙ product-power (pos r.count) left (block-bytes_of l.preauthenticator) in
      ap (λ (z : Words). record { first = l.first; count = l.count + r.count; preauthenticator = z })
      (words_of_lem x (xor_bytes (jump r.count left) (bytes_of r.preauthenticator)) hx (ex ∙ ap (λ (q : List ℕ). xor_bytes q (bytes_of r.preauthenticator)) j))

  pub keeping_refused : (k : LastPower) {e : Refusal} → Err e ≡ passed (first_row (join_two_rows in_words l r)) → record { answer = Err e; last = k } ≡ join_keeping l r k
  unfolding join_keeping join_two kept_after
  keeping_refused k h =
      let d = refuses (join_two_rows in_words l r) (joined in_words l r) h in
      ap₂ (λ (x : Result RunRecord Refusal) (y : LastPower). record { answer = x; last = y })
      (refused_answer (λ r. r) (join_two in_words l r) d.0 d.1)
      (sym (ap (λ (x : Answer RunRecord). kept_after x k r.count) d.0))

  pub keeping_given : (k k' : LastPower) (x : RunRecord) {u : Unit {0}} → Ok u ≡ passed (first_row (join_two_rows in_words l r)) → x ≡ joined in_words l r → k' ≡ power_for k r.count
      → record { answer = Ok x; last = k' } ≡ join_keeping l r k
  unfolding join_keeping join_two kept_after
  keeping_given k k' x h ex ek =
      let d : join_two in_words l r ≡ given (joined in_words l r) = gives (join_two_rows in_words l r) (joined in_words l r) tt h in
      ap₂ (λ (u : Result RunRecord Refusal) (y : LastPower). record { answer = u; last = y })
      (ap (λ (u : RunRecord). Ok u) ex ∙ given_answer (λ r. r) (join_two in_words l r) (joined in_words l r) d)
      (ek ∙ sym (ap (λ (u : Answer RunRecord). kept_after u k r.count) d))

  -- the answer is that of the join of two, whatever was kept
  pub keeping_answer : (k : LastPower) → (join_keeping l r k).answer ≡ record_of_answer (join_two in_words l r)
  unfolding join_keeping
  keeping_answer k = refl
