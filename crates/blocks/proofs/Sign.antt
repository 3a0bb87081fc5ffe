-- A signed number of 32 bits: what is read back of it at 64 bits, its sign and its magnitude.
use mathlib.Core.Path.{◌≡◌, refl, sym, ap, subst, ◌∙◌}
use mathlib.Core.Bool.{true, false}
use Prim.Native.Nat.{ℕ, zero, suc}
use native.Mathlib.Nat.{not-suc-le-zero, lt_of_le_of_lt}
use native.Mathlib.Omega.{arith}
use borrow.Author.Tests.{ltb-true}
use lib.Dec.{T, lit<}
use lib.IntN.{ℤ, pos, negsuc, neg_ℤ, nat_abs, ◌-ℤ◌, +ℤ_idl}
use lib.Signed.{lt_z, non_neg, nat_abs-le}
use mir.Syntax.{w32, w64}
use mir.Val.{Fits, SFits, to_z, of_z}
use mir.ValLaws.{to_z-of_z}

-- it can be cast to an unsigned number, and has this magnitude
abbrev pub Counts : ℤ → Type 0
Counts z = T (non_neg z) × Fits w32 (nat_abs z)

fits_abs : (d : ℤ) → SFits w32 d → Fits w32 (nat_abs d)
fits_abs d f = record { fits = lt_of_le_of_lt (nat_abs-le d f.sfits) (lit< tt) }

-- ---- forward

forward : (d : ℤ) → lt_z d (pos 0) ≡ false → T (non_neg d)
forward (pos n) e = tt
forward (negsuc n) e = subst T e tt

-- ---- back: turned round

pub abs_neg : (d : ℤ) → nat_abs (neg_ℤ d) ≡ nat_abs d
abs_neg (pos zero) = refl
abs_neg (pos (suc n)) = refl
abs_neg (negsuc n) = refl

turned_fits : (d : ℤ) → SFits w32 d → SFits w64 (neg_ℤ d)
turned_fits (pos zero) f = record { sfits = lit< tt }
turned_fits (pos (suc n)) f = record { sfits = omega (arith, f.sfits) }
turned_fits (negsuc n) f = record { sfits = omega (arith, f.sfits) }

turned : (d : ℤ) → lt_z d (pos 0) ≡ true → T (non_neg (neg_ℤ d))
turned (pos n) e = absurd (not-suc-le-zero (ltb-true n 0 e))
turned (negsuc n) e = tt

-- ---- as the machine reads it

module _ (d : ℤ) (f : SFits w32 d) where
  -- the number, widened
  abbrev pub wide : ℤ
  wide = to_z w32 (of_z w32 d)

  pub wide_fits : SFits w64 wide
  wide_fits = subst (SFits w64) (sym (to_z-of_z w32 d f)) (record { sfits = omega (arith, f.sfits) })

  pub wide_is : to_z w64 (of_z w64 wide) ≡ d
  wide_is = to_z-of_z w64 wide wide_fits ∙ to_z-of_z w32 d f

  pub wide_counts : lt_z (to_z w64 (of_z w64 wide)) (pos 0) ≡ false → Counts (to_z w64 (of_z w64 wide))
  wide_counts e = subst Counts (sym wide_is) (forward d (subst (λ (z : ℤ). lt_z z (pos 0) ≡ false) wide_is e), fits_abs d f)

  -- the number, widened and turned round
  abbrev pub against : ℤ
  against = pos 0 -ℤ to_z w64 (of_z w64 wide)

  against_is : against ≡ neg_ℤ d
  against_is = +ℤ_idl (neg_ℤ (to_z w64 (of_z w64 wide))) ∙ ap neg_ℤ wide_is

  pub against_fits : SFits w64 against
  against_fits = subst (SFits w64) (sym against_is) (turned_fits d f)

  read_against : to_z w64 (of_z w64 against) ≡ neg_ℤ d
  read_against = to_z-of_z w64 against against_fits ∙ against_is

  pub against_counts : lt_z (to_z w64 (of_z w64 wide)) (pos 0) ≡ true → Counts (to_z w64 (of_z w64 against))
  against_counts e =
      subst Counts (sym read_against)
      (turned d (subst (λ (z : ℤ). lt_z z (pos 0) ≡ true) wide_is e), subst (λ (n : ℕ). Fits w32 n) (sym (abs_neg d)) (fits_abs d f))

  pub against_abs : nat_abs (to_z w64 (of_z w64 against)) ≡ nat_abs d
  against_abs = ap nat_abs read_against ∙ abs_neg d
