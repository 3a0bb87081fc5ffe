-- A rule of every number below a bound, or of every element of a list, by one test that antt computes.
use mathlib.Core.Path.{◌≡◌, refl, subst, sym}
use mathlib.Core.Bool.{Bool, true, false, ◌&&◌}
use mathlib.Core.List.{List, [], ◌∷◌}
use mathlib.Core.Logic.{⊎_elim}
use Prim.Native.Nat.{ℕ, zero, suc, ◌<◌}
use native.Mathlib.Nat.{le_of_suc-le-suc, not-suc-le-zero, eq-or-lt_of_le}
use lib.Dec.{T, eqb, eqb→eq, ltb, ltb→lt, lit<}
use Rattle.blocks.specs.Bytes.{Bytes}

pub and_left : (a b : Bool) → T (a && b) → T a
and_left true b t = tt
and_left false b t = t

pub and_right : (a b : Bool) → T (a && b) → T b
and_right true b t = t
and_right false b t = absurd t

pub and_both : (a b : Bool) → T a → T b → T (a && b)
and_both true b ta tb = tb
and_both false b ta tb = ta

-- two tests that pass together are one
pub same_test : (a b : Bool) → (T a → T b) → (T b → T a) → a ≡ b
same_test true true f g = refl
same_test true false f g = absurd (f tt)
same_test false true f g = absurd (g tt)
same_test false false f g = refl

-- the test f passes at each number below n
abbrev pub all : (ℕ → Bool) → ℕ → Bool
all f zero = true
all f (suc n) = f n && all f n

pub below : (f : ℕ → Bool) (n : ℕ) → T (all f n) → (k : ℕ) → k < n → T (f k)
below f zero t k h = absurd (not-suc-le-zero h)
below f (suc n) t k h =
    ⊎_elim (λ e. subst (λ (m : ℕ). T (f m)) (sym e) (and_left (f n) (all f n) t))
    (λ l. below f n (and_right (f n) (all f n) t) k l) (eq-or-lt_of_le (le_of_suc-le-suc h))

-- an equation, and a bound, of each number below n
pub equal-below : (n : ℕ) (f g : ℕ → ℕ) → T (all (λ k. eqb (f k) (g k)) n) → (k : ℕ) → k < n → f k ≡ g k
equal-below n f g t k h = eqb→eq (f k) (g k) (below (λ j. eqb (f j) (g j)) n t k h)

pub less_below : (n m : ℕ) (f : ℕ → ℕ) → T (all (λ k. ltb (f k) m) n) → (k : ℕ) → k < n → f k < m
less_below n m f t k h = ltb→lt (f k) m (below (λ j. ltb (f j) m) n t k h)

-- each element of a list that is written out is a byte
abbrev pub all_bytes : List ℕ → Bool
all_bytes [] = true
all_bytes (x ∷ xs) = ltb x 256 && all_bytes xs

pub bytes_by : (xs : List ℕ) → T (all_bytes xs) → Bytes xs
bytes_by [] t i = lit< tt
bytes_by (x ∷ xs) t zero = ltb→lt x 256 (and_left (ltb x 256) (all_bytes xs) t)
bytes_by (x ∷ xs) t (suc i) = bytes_by xs (and_right (ltb x 256) (all_bytes xs) t) i
