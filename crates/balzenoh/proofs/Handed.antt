-- Records that are handed in as bytes: whether they have the length of a record.
use mathlib.Core.Path.{◌≡◌, ap}
use mathlib.Core.Bool.{true, false, not}
use mathlib.Core.List.{List}
use Prim.Native.Nat.{ℕ, ◌%◌}
use lib.ListN.{length}
use borrow.Author.Tests.{eq-eqb, ne_eqb}
use Rattle.balzenoh.specs.Exports.{not_record, not_records}

pub no_record : (b : List ℕ) → (length b ≡ 24 → ⊥) → not_record b ≡ true
unfolding not_record
no_record b h = ap not (ne_eqb (length b) 24 h)

pub a_record : (b : List ℕ) → length b ≡ 24 → not_record b ≡ false
unfolding not_record
a_record b h = ap not (eq-eqb (length b) 24 h)

pub no_records : (b : List ℕ) → (length b % 24 ≡ 0 → ⊥) → not_records b ≡ true
unfolding not_records
no_records b h = ap not (ne_eqb (length b % 24) 0 h)

pub some-records : (b : List ℕ) → length b % 24 ≡ 0 → not_records b ≡ false
unfolding not_records
some-records b h = ap not (eq-eqb (length b % 24) 0 h)
