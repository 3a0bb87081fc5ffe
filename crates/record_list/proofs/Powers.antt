-- The powers worked out, counted: what the kept power's total comes to is the number that the definition gives.
use mathlib.Core.Path.{◌≡◌, refl, ap, ◌∙◌}
use mathlib.Core.Bool.{Bool, true, false, cond, not, ◌||◌}
use mathlib.Core.List.{List, [], ◌∷◌}
use Prim.Native.Nat.{ℕ, ◌+◌}
use native.Mathlib.Omega.{arith}
use lib.Dec.{eqb}
use borrow.Author.Tests.{eqb-true}
use Rattle.std.specs.Prelude.{Option, Some, Ok}
use Rattle.mode.specs.Refusals.{answered}
use Rattle.mode.specs.Mode.{in_words}
use Rattle.mode.specs.declared.RunRecord.{RunRecord}
use Rattle.mode.specs.declared.power.LastPower.{LastPower}
use Rattle.mode.specs.Table.{decide, beyond, any_beyond, any_beyond_within, apart, none}
use Rattle.mode.specs.Calls.{joined_all, join_list, record_of_answer}
use Rattle.mode.specs.declared.power.Power.{Power}
use Rattle.mode.specs.Powers.{no_power, worked_out, is_kept, power_for}
use Rattle.record_list.specs.Counted.{changes, powers_of, following, joined_front}
use Rattle.record_list.proofs.Fold.{last_of, rights}

-- ---- the total

-- from a power that is kept: one for each count that differs from the one before
total_changes : (k : LastPower) (p : Power) (rs : List RunRecord) → k.kept ≡ Some p → (last_of k rs).total ≡ k.total + changes p.count rs
unfolding last_of changes power_for worked_out is_kept
total_changes k p [] e = omega arith
total_changes k p (r ∷ rs) e =
    ap (λ (o : Option Power). (last_of (cond (is_kept o r.count) k (worked_out k r.count)) rs).total) e
    ∙ by (eqb p.count r.count) refl (total_changes k p rs e) (total_changes (worked_out k r.count) _ rs refl)
  where
    by : (b : Bool) → eqb p.count r.count ≡ b → (last_of k rs).total ≡ k.total + changes p.count rs
        → (last_of (worked_out k r.count) rs).total ≡ k.total + 1 + changes r.count rs
        → (last_of (cond b k (worked_out k r.count)) rs).total ≡ k.total + (cond b 0 1 + changes r.count rs)
    by true u same other =
        let d : changes p.count rs ≡ changes r.count rs = ap (λ (n : ℕ). changes n rs) (eqb-true p.count r.count u) in
        omega arith
    by false u same other = omega arith

-- from none: one for the first right record
pub total_powers : (rs : List RunRecord) → (last_of no_power (rights rs)).total ≡ powers_of rs
unfolding last_of rights powers_of power_for worked_out is_kept
total_powers [] = refl
total_powers (l ∷ []) = refl
total_powers (l ∷ r ∷ rs) = total_changes (worked_out no_power r.count) _ rs refl

-- ---- a list that is joined is its own front

all_follow : (l : RunRecord) (rs : List RunRecord) → any_beyond in_words rs ≡ false → apart in_words (l ∷ rs) ≡ false → following l rs ≡ rs
unfolding any_beyond_within apart following
all_follow l [] h g = refl
all_follow l (r ∷ rs) h g = by (beyond r.first r.count) (not (eqb (l.first + l.count) r.first)) h g (all_follow r rs)
  where
    by : (b e : Bool) → (b || any_beyond in_words rs) ≡ false → (e || apart in_words (r ∷ rs)) ≡ false
        → (any_beyond in_words rs ≡ false → apart in_words (r ∷ rs) ≡ false → following r rs ≡ rs) → cond (b || (e || false)) [] (r ∷ following r rs) ≡ r ∷ rs
    by false false h g others = ap (λ (t : List RunRecord). r ∷ t) (others h g)
    by false true h g others = absurd (let z : ◌≡◌ {A = ℕ} 0 1 = cc in omega arith)
    by true e h g others = absurd (let z : ◌≡◌ {A = ℕ} 0 1 = cc in omega arith)

pub whole-front : (rs : List RunRecord) {x : RunRecord} → record_of_answer (join_list in_words rs) ≡ Ok x → joined_front rs ≡ rs
unfolding join_list decide answered joined_front any_beyond_within
whole-front [] e = refl
whole-front (l ∷ rs) {x} e = by (beyond l.first l.count) (any_beyond in_words rs) (apart in_words (l ∷ rs)) refl refl e
  where
    by : (b d a : Bool) → any_beyond in_words rs ≡ d → apart in_words (l ∷ rs) ≡ a
        → record_of_answer (decide ((4, b || d) ∷ (8, a) ∷ (9, none (l ∷ rs)) ∷ []) (joined_all in_words (l ∷ rs))) ≡ Ok x → cond b [] (l ∷ following l rs) ≡ l ∷ rs
    by true d a u v e = absurd (grind arith)
    by false true a u v e = absurd (grind arith)
    by false false true u v e = absurd (grind arith)
    by false false false u v e = ap (λ (t : List RunRecord). l ∷ t) (all_follow l rs u v)
