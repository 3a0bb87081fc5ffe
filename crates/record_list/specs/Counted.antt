-- Ticket P2: how many powers of the variable are worked out while a list is joined.
use Rattle.std.specs.Prelude.{Ok, ◌≡◌, cond, ◌||◌, List, [], ◌∷◌, ℕ, ◌+◌, eqb}
use Rattle.mode.specs.Mode.{in_words}
use Rattle.mode.specs.declared.RunRecord.{RunRecord}
use Rattle.mode.specs.declared.KeptAnswer.{KeptAnswer}
use Rattle.mode.specs.Table.{beyond, apart}
use Rattle.mode.specs.Calls.{join_list, record_of_answer}

-- one for each record whose count differs from that of the record before it; the first stands after one of `count` blocks
unfoldable pub changes : ℕ → List RunRecord → ℕ
changes count [] = 0
changes count (r ∷ rs) = cond (eqb count r.count) 0 1 + changes r.count rs

-- THE POWERS WORKED OUT for a list that is joined: one for the first right record, and one for each whose count differs from that of the
-- right record before it. A list of one has no right record.
unfoldable pub powers_of : List RunRecord → ℕ
powers_of [] = 0
powers_of (l ∷ []) = 0
powers_of (l ∷ r ∷ rs) = 1 + changes r.count rs

-- the records of a list that follow on l: up to the first that is beyond the limit or does not adjoin the one before it
unfoldable pub following : RunRecord → List RunRecord → List RunRecord
following l [] = []
following l (r ∷ rs) = cond (beyond r.first r.count || apart in_words (l ∷ r ∷ [])) [] (r ∷ following r rs)

-- THE FRONT OF A LIST that is joined, where the list is refused. A list that is joined is its own front (`whole-front` in proofs/Powers.antt).
unfoldable pub joined_front : List RunRecord → List RunRecord
joined_front [] = []
joined_front (l ∷ rs) = cond (beyond l.first l.count) [] (l ∷ following l rs)

-- A LIST, JOINED: the answer of the call, and the powers that were worked out for it. Of a list that is refused they are those of the front
-- that was joined.
pub record Counted (rs : List RunRecord) (a : KeptAnswer) : Type 0 where
  pub answer : a.answer ≡ record_of_answer (join_list in_words rs)
  pub joined : {r : RunRecord} → a.answer ≡ Ok r → a.last.total ≡ powers_of rs
  pub front : a.last.total ≡ powers_of (joined_front rs)
