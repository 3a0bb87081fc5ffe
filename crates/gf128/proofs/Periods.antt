-- A period of a block: as many multiplications by x leave the block as it is. Periods add, and the difference of two is one. So where a prime p
-- times m is a period, and a smaller number times m is one, m is one: Euclid's steps lead from p and that number to 1.
use mathlib.Core.Path.{◌≡◌, sym, ap, subst, ◌∙◌}
use mathlib.Core.List.{List}
use Prim.Native.Nat.{ℕ, zero, suc, ◌+◌, ◌*◌, ◌/◌, ◌%◌, ◌≤◌, ◌<◌}
use native.Mathlib.Nat.{zero-mul, one-mul, suc-mul, add-mul, mul_assoc, mod-lt, mod-add-div', le_refl}
use native.Mathlib.Omega.{arith}
use Rattle.gf128.specs.Gf128.{jump}
use Rattle.gf128.proofs.TimesX.{jump-add}
use Rattle.gf128.proofs.Prime.{Prime}

module _ (b : List ℕ) where
  abbrev pub Period : ℕ → Type 0
  Period n = jump n b ≡ b

  period_add : (n k : ℕ) → Period n → Period k → Period (n + k)
  period_add n k hn hk = jump-add n k b ∙ ap (jump n) hk ∙ hn

  pub period_times : (k n : ℕ) → Period n → Period (k * n)
  unfolding jump
  period_times zero n h = ap (λ (z : ℕ). jump z b) (zero-mul n)
  period_times (suc k) n h = ap (λ (z : ℕ). jump z b) (suc-mul k n) ∙ period_add (k * n) n (period_times k n h) h

  period_less : (n k : ℕ) → Period k → Period (n + k) → Period n
  period_less n k hk h = sym (ap (jump n) hk) ∙ sym (jump-add n k b) ∙ h

  module _ (p m : ℕ) (prime : Prime p) (whole : Period (p * m)) where
    rest : (d : ℕ) → Period (d * m) → Period (p % d * m)
    rest d h =
        let e : p * m ≡ p % d * m + p / d * (d * m) =
        ap (λ (z : ℕ). z * m) (sym (mod-add-div' p d)) ∙ add-mul (p % d) (p / d * d) m ∙ ap (λ (z : ℕ). p % d * m + z) (mul_assoc (p / d) d m) in
        period_less (p % d * m) (p / d * (d * m)) (period_times (p / d) (d * m) h) (subst (λ (z : ℕ). Period z) e whole)

    -- k bounds d, and falls
    descend : (k d : ℕ) → d ≤ k → 0 < d → d < p → Period (d * m) → Period m
    descend zero d le pos lt h = absurd (omega arith)
    descend (suc k) zero le pos lt h = absurd (omega arith)
    descend (suc k) (suc zero) le pos lt h = subst (λ (z : ℕ). Period z) (one-mul m) h
    descend (suc k) (suc (suc d)) le pos lt h =
        let l : p % suc (suc d) < suc (suc d) = mod-lt p pos in
        descend k (p % suc (suc d)) (omega arith) (prime (suc (suc d)) (omega arith) lt) (omega arith) (rest (suc (suc d)) h)

    pub by-steps : (d : ℕ) → 0 < d → d < p → Period (d * m) → Period m
    by-steps d = descend d d (le_refl d)
