-- The join of two records, row by row, as the code decides it.
use mathlib.Core.Path.{◌≡◌, refl, sym}
use mathlib.Core.Bool.{Bool, true, false, cond, not, ◌||◌}
use Prim.Native.Nat.{ℕ, ◌+◌, ◌≤◌, ◌<◌}
use native.Mathlib.Omega.{arith}
use lib.Dec.{eqb, ltb}
use borrow.Author.Tests.{le-ltb, lt-ltb, eq-eqb, ne_eqb, ltb-false, eqb-true}
use Rattle.mode.specs.Mode.{RunRecord, in_words}
use Rattle.mode.specs.Table.{first_row, limit, beyond_within, any_beyond_within, apart}
use Rattle.mode.specs.Calls.{join_two_rows}

module _ (l r : RunRecord) where
  pub join_left_beyond : limit < l.first + l.count → 4 ≡ first_row (join_two_rows in_words l r)
  unfolding first_row any_beyond_within beyond_within
  join_left_beyond h = sym (rw (lt-ltb limit (l.first + l.count) h))

  pub join_right_beyond : l.first + l.count ≤ limit → limit < r.first + r.count → 4 ≡ first_row (join_two_rows in_words l r)
  unfolding first_row any_beyond_within beyond_within
  join_right_beyond h k = sym (rw (le-ltb limit (l.first + l.count) h, lt-ltb limit (r.first + r.count) k))

  pub join_apart : l.first + l.count ≤ limit → r.first + r.count ≤ limit → (l.first + l.count ≡ r.first → ⊥) → 8 ≡ first_row (join_two_rows in_words l r)
  unfolding first_row any_beyond_within beyond_within apart
  join_apart h k e =
      sym (rw (le-ltb limit (l.first + l.count) h, le-ltb limit (r.first + r.count) k, ne_eqb (l.first + l.count) r.first e))

  pub join_adjoins : l.first + l.count ≤ limit → r.first + r.count ≤ limit → l.first + l.count ≡ r.first → 0 ≡ first_row (join_two_rows in_words l r)
  unfolding first_row any_beyond_within beyond_within apart
  join_adjoins h k e =
      sym (rw (le-ltb limit (l.first + l.count) h, le-ltb limit (r.first + r.count) k, eq-eqb (l.first + l.count) r.first e))

  -- no row holds, so the joined count is within the limit too
  pub join_counts : 0 ≡ first_row (join_two_rows in_words l r) → l.count + r.count ≤ limit
  unfolding first_row any_beyond_within beyond_within apart
  join_counts z = by (ltb limit (l.first + l.count)) (ltb limit (r.first + r.count)) (eqb (l.first + l.count) r.first) refl refl z
    where
      by : (b d e : Bool) → ltb limit (r.first + r.count) ≡ d → eqb (l.first + l.count) r.first ≡ e
          → ◌≡◌ {A = ℕ} 0 (cond (b || (d || false)) 4 (cond (not e || false) 8 0)) → l.count + r.count ≤ limit
      by true d e u v z = absurd (omega arith)
      by false true e u v z = absurd (omega arith)
      by false false false u v z = absurd (omega arith)
      by false false true u v z =
          let k : r.first + r.count ≤ limit = ltb-false limit (r.first + r.count) u in
          let a : l.first + l.count ≡ r.first = eqb-true (l.first + l.count) r.first v in
          omega arith
