-- The records of a list in turn give the answer to the list: the definition decides its rows over the whole list, and here they are
-- decided a record at a time. Beside the answer goes the power that is kept: that of the records joined so far.
use mathlib.Core.Path.{◌≡◌, refl, ap, ap₂, ◌∙◌}
use mathlib.Core.Bool.{Bool, true, false, cond, not, ◌||◌}
use mathlib.Core.List.{List, [], ◌∷◌}
use Prim.Native.Nat.{◌+◌, ◌≤◌}
use native.Mathlib.Omega.{arith}
use lib.Dec.{eqb, ltb}
use borrow.Author.Tests.{le-ltb, ltb-false, eqb-true}
use Rattle.mode.specs.Mode.{in_words}
use Rattle.mode.specs.declared.RunRecord.{RunRecord}
use Rattle.std.specs.Prelude.{Result, Ok, Err}
use Rattle.mode.specs.declared.refusal.Refusal.{Refusal}
use Rattle.mode.specs.declared.refusal.Refusal.TheVariants.{BeyondLimit, NotNeighbours}
use Rattle.mode.specs.Refusals.{answered, refusal_of}
use Rattle.mode.specs.declared.power.LastPower.{LastPower}
use Rattle.mode.specs.Table.{decide, limit, beyond, beyond_within, any_beyond, any_beyond_within, apart, none}
use Rattle.mode.specs.Calls.{joined, joined_onto, joined_all, join_two, join_list, record_of_answer}
use Rattle.mode.specs.Powers.{no_power, power_for, kept_after, join_keeping}
use Rattle.record_list.specs.Onto.{kept, started, unless_beyond, unjoined, onto_answer, onto_all}
use Rattle.record_list.specs.Counted.{following, joined_front}

-- the power that is kept after right records, from the one before
unfoldable pub last_of : LastPower → List RunRecord → LastPower
last_of k [] = k
last_of k (r ∷ rs) = last_of (power_for k r.count) rs

-- the right records of a list
unfoldable pub rights : List RunRecord → List RunRecord
rights [] = []
rights (l ∷ rs) = rs

-- ---- a list, by the answer before it

-- 4 stands
after_four : (k : LastPower) (rs : List RunRecord) → onto_all (kept (Err BeyondLimit) k) rs ≡ kept (Err BeyondLimit) k
unfolding onto_all onto_answer unjoined
after_four k [] = refl
after_four k (r ∷ rs) = after_four k rs

-- 8 stands, unless a record is beyond the limit
after_eight : (k : LastPower) (rs : List RunRecord) → onto_all (kept (Err NotNeighbours) k) rs ≡ kept (cond (any_beyond in_words rs) (Err BeyondLimit) (Err NotNeighbours)) k
unfolding onto_all onto_answer unjoined unless_beyond any_beyond_within
after_eight k [] = refl
after_eight k (r ∷ rs) = by (beyond r.first r.count) (after_eight k rs)
  where
    by : (b : Bool) → onto_all (kept (Err NotNeighbours) k) rs ≡ kept (cond (any_beyond in_words rs) (Err BeyondLimit) (Err NotNeighbours)) k
        → onto_all (kept (cond b (Err BeyondLimit) (Err NotNeighbours)) k) rs ≡ kept (cond (b || any_beyond in_words rs) (Err BeyondLimit) (Err NotNeighbours)) k
    by true others = after_four k rs
    by false others = others

-- a joined record ends where its right part ends, so it stands to what follows as that part does
joined_end : (l r : RunRecord) → l.first + l.count ≡ r.first → (joined in_words l r).first + (joined in_words l r).count ≡ r.first + r.count
unfolding joined
joined_end l r e = omega arith

joined-apart : (l r : RunRecord) (rs : List RunRecord) → l.first + l.count ≡ r.first → apart in_words (joined in_words l r ∷ rs) ≡ apart in_words (r ∷ rs)
unfolding apart
joined-apart l r [] e = refl
joined-apart l r (q ∷ qs) e = rw (joined_end l r e)

joined-following : (l r : RunRecord) (rs : List RunRecord) → l.first + l.count ≡ r.first → following (joined in_words l r) rs ≡ following r rs
unfolding following
joined-following l r [] e = refl
joined-following l r (q ∷ qs) e =
    ap (λ (b : Bool). cond (beyond q.first q.count || b) [] (q ∷ following q qs)) (joined-apart l r (q ∷ []) e)

-- the list is joined onto a record, unless one of the list is beyond the limit or two in turn do not adjoin
abbrev answer_after : RunRecord → List RunRecord → Bool → Bool → Result RunRecord Refusal
answer_after l rs over gap = record_of_answer (decide ((4, over) ∷ (8, gap) ∷ []) (joined_onto in_words l rs))

abbrev After : RunRecord → LastPower → List RunRecord → Type 0
After l k rs = onto_all (kept (Ok l) k) rs ≡ kept (answer_after l rs (any_beyond in_words rs) (apart in_words (l ∷ rs))) (last_of k (following l rs))

after_given : (l : RunRecord) (k : LastPower) (rs : List RunRecord) → l.first + l.count ≤ limit → After l k rs
unfolding onto_all onto_answer any_beyond_within beyond_within apart following last_of join_two join_keeping kept_after joined_onto decide answered refusal_of
after_given l k [] h = refl
after_given l k (r ∷ rs) h =
    rw (le-ltb limit (l.first + l.count) h)
    (by (ltb limit (r.first + r.count)) (eqb (l.first + l.count) r.first) refl refl (after_given (joined in_words l r) (power_for k r.count) rs))
  where
    eight : (b : Bool) → cond b (Err BeyondLimit) (Err NotNeighbours) ≡ answer_after (joined in_words l r) rs b true
    eight true = refl
    eight false = refl

    by : (b e : Bool) → ltb limit (r.first + r.count) ≡ b → eqb (l.first + l.count) r.first ≡ e
        → ((joined in_words l r).first + (joined in_words l r).count ≤ limit → After (joined in_words l r) (power_for k r.count) rs)
        → onto_all (kept (record_of_answer (decide ((4, b || false) ∷ (8, not e || false) ∷ []) (joined in_words l r)))
        (kept_after (decide ((4, b || false) ∷ (8, not e || false) ∷ []) (joined in_words l r)) k r.count)) rs
        ≡ kept (answer_after (joined in_words l r) rs (b || any_beyond in_words rs) (not e || apart in_words (r ∷ rs))) (last_of k (cond (b || (not e || false)) [] (r ∷ following r rs)))
    by true e u v others = after_four k rs
    by false false u v others = after_eight k rs ∙ ap (λ (a : Result RunRecord Refusal). kept a k) (eight (any_beyond in_words rs))
    by false true u v others =
        let m : r.first + r.count ≤ limit = ltb-false limit (r.first + r.count) u in
        let a : l.first + l.count ≡ r.first = eqb-true (l.first + l.count) r.first v in
        let w : (joined in_words l r).first + (joined in_words l r).count ≤ limit = rw (joined_end l r a) m in
        others w
        ∙ ap₂ (λ (x : Bool) (y : List RunRecord). kept (answer_after (joined in_words l r) rs (any_beyond in_words rs) x) (last_of (power_for k r.count) y)) (joined-apart l r rs a) (joined-following l r rs a)

-- THE LAW: from no record, the answer to the list, and the power kept after the right records that were joined
pub list_joined : (rs : List RunRecord) → onto_all started rs ≡ kept (record_of_answer (join_list in_words rs)) (last_of no_power (rights (joined_front rs)))
unfolding onto_all onto_answer unjoined unless_beyond any_beyond_within beyond_within apart none join_list joined_all joined_front last_of rights decide answered refusal_of
list_joined [] = refl
list_joined (r ∷ rs) = by (ltb limit (r.first + r.count)) refl
  where
    by : (b : Bool) → ltb limit (r.first + r.count) ≡ b
        → onto_all (kept (cond b (Err BeyondLimit) (Ok r)) no_power) rs
        ≡ kept (record_of_answer (decide ((4, b || any_beyond in_words rs) ∷ (8, apart in_words (r ∷ rs)) ∷ (9, false) ∷ []) (joined_onto in_words r rs)))
        (last_of no_power (rights (cond b [] (r ∷ following r rs))))
    by true u = after_four no_power rs
    by false u = after_given r no_power rs (ltb-false limit (r.first + r.count) u)
