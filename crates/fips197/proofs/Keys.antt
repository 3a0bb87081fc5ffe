-- The lengths of a key.
use mathlib.Core.Path.{◌≡◌, refl}
use mathlib.Core.Bool.{Bool, true, false, not, ◌||◌}
use mathlib.Core.List.{List}
use Prim.Native.Nat.{ℕ, ◌*◌, ◌≤◌}
use native.Mathlib.Omega.{arith}
use lib.Dec.{eqb}
use lib.ListN.{length}
use borrow.Author.Tests.{ne_eqb, eqb-true}
use Rattle.fips197.specs.Aes.{KeyLength, short, long, not_key, nk_of}

-- a key has whole words
pub whole_words : (key : List ℕ) → KeyLength key → length key ≡ nk_of key * 4
whole_words key (short e) = rw e refl
whole_words key (long e) = rw e refl

pub at_least_16 : (key : List ℕ) → KeyLength key → 16 ≤ length key
at_least_16 key (short e) = omega arith
at_least_16 key (long e) = omega arith

pub at_most_32 : (key : List ℕ) → KeyLength key → length key ≤ 32
at_most_32 key (short e) = omega arith
at_most_32 key (long e) = omega arith

-- ---- a key has neither length exactly where `not_key` says so

pub is_key : (key : List ℕ) → KeyLength key → not_key key ≡ false
unfolding not_key
is_key key (short e) = rw e refl
is_key key (long e) = rw e refl

pub isnt_key : (key : List ℕ) → (length key ≡ 16 → ⊥) → (length key ≡ 32 → ⊥) → not_key key ≡ true
unfolding not_key
isnt_key key h k = rw (ne_eqb (length key) 16 h, ne_eqb (length key) 32 k) refl

pub has_key : (key : List ℕ) → not_key key ≡ false → KeyLength key
unfolding not_key
has_key key e = by (eqb (length key) 16) refl (eqb (length key) 32) refl e
  where
    by : (s : Bool) → eqb (length key) 16 ≡ s → (l : Bool) → eqb (length key) 32 ≡ l → not (s || l) ≡ false → KeyLength key
    by true p l q e = short (eqb-true (length key) 16 p)
    by false p true q e = long (eqb-true (length key) 32 q)
    by false p false q e = absurd (let z : ◌≡◌ {A = ℕ} 0 1 = cc in omega arith)
