-- A number has no divisor but 1 and itself if no number up to its root divides it.
use mathlib.Core.Path.{◌≡◌, refl, sym, ap, subst, ◌∙◌}
use Prim.Native.Nat.{ℕ, zero, suc, ◌+◌, ◌-◌, ◌*◌, ◌/◌, ◌%◌, ◌≤◌, ◌<◌}
use native.Mathlib.Nat.{zero-mul, one-mul, mul-le-mul, mul-mod_right, div-add-mod'}
use native.Mathlib.Decide.{dec_le}
use native.Mathlib.Omega.{arith}
use lib.Dec.{ltb, ltb→lt, lit<}
use Rattle.blocks.proofs.Test.{below}

-- p has no divisor between 1 and itself
abbrev pub Prime : ℕ → Type 0
Prime p = (d : ℕ) → 1 < d → d < p → 0 < p % d

module _ (p s : ℕ) (root : p < s * s) (small : (d : ℕ) → 1 < d → d < s → 0 < p % d) where
  -- what a divisor leaves
  more_than_one : (k d : ℕ) → k * d ≡ p → 1 < d → d < p → 1 < k
  more_than_one zero d e h l = absurd (omega (arith, zero-mul d))
  more_than_one (suc zero) d e h l = absurd (omega (arith, one-mul d))
  more_than_one (suc (suc k)) d e h l = omega arith

  below_root : (k d : ℕ) → k * d ≡ p → s ≤ d → k < s
  below_root k d e l = elim (dec_le s k) [ yes h ↦ absurd (omega (arith, mul-le-mul h l)) | no h ↦ omega arith ]

  no_divisor : Prime p
  no_divisor d h l = elim (dec_le s d) [ yes le ↦ by le (p % d) refl | no gt ↦ small d h (omega arith) ]
    where
      by : s ≤ d → (r : ℕ) → p % d ≡ r → 0 < p % d
      by le (suc r) e = omega arith
      by le zero e =
          let k = p / d in
          let f : k * d ≡ p = omega (arith, div-add-mod' p d) in
          let c : 0 < p % k = small k (more_than_one k d f h l) (below_root k d f le) in
          let z : p % k ≡ 0 = ap (λ (n : ℕ). n % k) (sym f) ∙ mul-mod_right k d in
          absurd (omega arith)

-- ---- 6,700,417, by 2,587 divisions, from 2 to 2,588

tried : (d : ℕ) → 1 < d → d < 2589 → 0 < 6700417 % d
tried d h l =
    let e : d - 2 + 2 ≡ d = omega arith in
    subst (λ (n : ℕ). 0 < 6700417 % n) e (ltb→lt 0 (6700417 % (d - 2 + 2)) (below (λ k. ltb 0 (6700417 % (k + 2))) 2587 tt (d - 2) (omega arith)))

pub prime_6700417 : Prime 6700417
prime_6700417 = no_divisor 6700417 2589 (lit< tt) tried
