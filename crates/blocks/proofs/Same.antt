-- The comparison passes exactly where the lists are equal, and so does the code's, which joins all differences by `or`.
use mathlib.Core.Path.{◌≡◌, refl, ap₂, sym, subst}
use mathlib.Core.List.{List, [], ◌∷◌}
use Prim.Native.Nat.{ℕ, zero, suc, ◌+◌, ◌<◌}
use native.Mathlib.Numerals.{add-one}
use native.Mathlib.Omega.{arith}
use lib.Bits.{bit_or, bit_xor, or_add_and, xor_add_and, and_le_l, and_le_r, xor_self}
use lib.Dec.{T, eqb, eqb→eq, eqb_refl}
use lib.ListN.{length, get_or}
use lib.Seq.{ext_get_or}
use borrow.Author.Count.{below_more}
use Rattle.blocks.specs.Bytes.{same}
use Rattle.blocks.proofs.Test.{and_left, and_right, and_both, same_test}

pub same_refl : (a : List ℕ) → T (same a a)
unfolding same
same_refl [] = tt
same_refl (x ∷ a) = and_both (eqb x x) (same a a) (eqb_refl x) (same_refl a)

pub same-equal : (a b : List ℕ) → T (same a b) → a ≡ b
unfolding same
same-equal [] [] t = refl
same-equal [] (y ∷ b) t = absurd t
same-equal (x ∷ a) [] t = absurd t
same-equal (x ∷ a) (y ∷ b) t =
    ap₂ (λ (h : ℕ) (r : List ℕ). h ∷ r) (eqb→eq x y (and_left (eqb x y) (same a b) t)) (same-equal a b (and_right (eqb x y) (same a b) t))

-- ---- as the code does it

-- the first n differences, joined
unfoldable pub difference : List ℕ → List ℕ → ℕ → ℕ
difference a b zero = 0
difference a b (suc n) = bit_or (difference a b n) (bit_xor (get_or a n 0) (get_or b n 0))

-- one difference more
pub difference_more : (a b : List ℕ) (n : ℕ) → difference a b (n + 1) ≡ bit_or (difference a b n) (bit_xor (get_or a n 0) (get_or b n 0))
unfolding difference
difference_more a b n = rw add-one refl

or_zero : (a b : ℕ) → bit_or a b ≡ 0 → (a ≡ 0) × (b ≡ 0)
or_zero a b h = (omega (arith, or_add_and a b, and_le_l a b, and_le_r a b), omega (arith, or_add_and a b, and_le_l a b, and_le_r a b))

xor-zero : (a b : ℕ) → bit_xor a b ≡ 0 → a ≡ b
xor-zero a b h = omega (arith, xor_add_and a b, and_le_l a b, and_le_r a b)

agree : (a b : List ℕ) (n : ℕ) → difference a b n ≡ 0 → (i : ℕ) → i < n → get_or a i 0 ≡ get_or b i 0
unfolding difference
agree a b zero h i l = absurd (omega arith)
agree a b (suc n) h i l =
    let parts = or_zero (difference a b n) (bit_xor (get_or a n 0) (get_or b n 0)) h in
    below_more _ n (agree a b n parts.0) (xor-zero (get_or a n 0) (get_or b n 0) parts.1) i (omega arith)

none : (a : List ℕ) (n : ℕ) → difference a a n ≡ 0
unfolding difference
none a zero = refl
none a (suc n) = rw (none a n, xor_self)

-- no difference is `same`
pub same_by : (n : ℕ) (a b : List ℕ) → length a ≡ n → length b ≡ n → eqb (difference a b n) 0 ≡ same a b
same_by n a b la lb =
    same_test (eqb (difference a b n) 0) (same a b)
    (λ t. subst (λ (z : List ℕ). T (same a z)) (equal (eqb→eq (difference a b n) 0 t)) (same_refl a))
    (λ t. subst (λ (z : List ℕ). T (eqb (difference a z n) 0)) (same-equal a b t) (subst (λ (k : ℕ). T (eqb k 0)) (sym (none a n)) tt))
  where
    equal : difference a b n ≡ 0 → a ≡ b
    equal h = ext_get_or 0 a b (omega arith) (λ i l. agree a b n h i (omega arith))
