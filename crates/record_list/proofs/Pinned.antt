-- What `Counted` says, in small lists, from itself alone: so that neither it nor what it is written with may say less unseen.
use mathlib.Core.Path.{◌≡◌, ap, ◌∙◌}
use mathlib.Core.Bool.{Bool, true, false, cond, ◌||◌}
use mathlib.Core.List.{List, [], ◌∷◌}
use borrow.Author.Tests.{eq-eqb, ne_eqb}
use Rattle.std.specs.Prelude.{Ok}
use Rattle.mode.specs.Mode.{in_words}
use Rattle.mode.specs.declared.RunRecord.{RunRecord}
use Rattle.mode.specs.declared.KeptAnswer.{KeptAnswer}
use Rattle.mode.specs.Table.{beyond, apart}
use Rattle.mode.specs.Calls.{join_list, record_of_answer}
use Rattle.record_list.specs.Counted.{changes, powers_of, following, joined_front, Counted}

-- the answer is that of the call
pub answers : (rs : List RunRecord) (a : KeptAnswer) → Counted rs a → a.answer ≡ record_of_answer (join_list in_words rs)
answers rs a c = c.answer

-- ---- a list that is joined

module _ (a : KeptAnswer) (x : RunRecord) (given : a.answer ≡ Ok x) where
  -- a list of one works out none; a second record works out one, of no block too
  pub one-record : (l : RunRecord) → Counted (l ∷ []) a → a.last.total ≡ 0
  unfolding powers_of
  one-record l c = c.joined given

  pub two_records : (l r : RunRecord) → Counted (l ∷ r ∷ []) a → a.last.total ≡ 1
  unfolding powers_of changes
  two_records l r c = c.joined given

  -- a third record works out one more where its count is another than that of the second
  pub same_count : (l r s : RunRecord) → Counted (l ∷ r ∷ s ∷ []) a → r.count ≡ s.count → a.last.total ≡ 1
  unfolding powers_of changes
  same_count l r s c e = c.joined given ∙ rw (eq-eqb r.count s.count e)

  pub other_count : (l r s : RunRecord) → Counted (l ∷ r ∷ s ∷ []) a → (r.count ≡ s.count → ⊥) → a.last.total ≡ 2
  unfolding powers_of changes
  other_count l r s c h = c.joined given ∙ rw (ne_eqb r.count s.count h)

  -- only the last power is kept: a count that comes again after another is worked out again
  pub count_again : (l r s t : RunRecord) → Counted (l ∷ r ∷ s ∷ t ∷ []) a → (r.count ≡ s.count → ⊥) → (s.count ≡ t.count → ⊥) → a.last.total ≡ 3
  unfolding powers_of changes
  count_again l r s t c h k = c.joined given ∙ rw (ne_eqb r.count s.count h, ne_eqb s.count t.count k)

-- ---- a list that is refused

module _ (a : KeptAnswer) where
  pub no_record : Counted [] a → a.last.total ≡ 0
  unfolding powers_of joined_front
  no_record c = c.front

  -- the first record is beyond the limit
  pub first-beyond : (l : RunRecord) (rs : List RunRecord) → Counted (l ∷ rs) a → beyond l.first l.count ≡ true → a.last.total ≡ 0
  unfolding powers_of joined_front
  first-beyond l rs c e = c.front ∙ ap (λ (b : Bool). powers_of (cond b [] (l ∷ following l rs))) e

  -- the second is, or does not adjoin the first; and so the third
  pub second_refused : (l r : RunRecord) (rs : List RunRecord) → Counted (l ∷ r ∷ rs) a → beyond l.first l.count ≡ false
      → (beyond r.first r.count || apart in_words (l ∷ r ∷ [])) ≡ true → a.last.total ≡ 0
  unfolding powers_of joined_front following
  second_refused l r rs c e h = c.front ∙ rw (e, h)

  pub third_refused : (l r s : RunRecord) (rs : List RunRecord) → Counted (l ∷ r ∷ s ∷ rs) a → beyond l.first l.count ≡ false
      → (beyond r.first r.count || apart in_words (l ∷ r ∷ [])) ≡ false → (beyond s.first s.count || apart in_words (r ∷ s ∷ [])) ≡ true → a.last.total ≡ 1
  unfolding powers_of changes joined_front following
  third_refused l r s rs c e g h = c.front ∙ rw (e, g, h)
