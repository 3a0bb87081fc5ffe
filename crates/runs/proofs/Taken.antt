-- Middletexts taken up, by their number.
use mathlib.Core.Path.{◌≡◌, refl, ap, ap₂, ◌∙◌}
use mathlib.Core.List.{List}
use Prim.Native.Nat.{ℕ, zero, suc, ◌+◌, ◌<◌}
use native.Mathlib.Omega.{arith}
use Rattle.blocks.specs.Bytes.{xor_bytes}
use Rattle.gf128.specs.Gf128.{times_x}
use Rattle.runs.specs.Group.{taken_up}

pub taken_as : (n : ℕ) (b b' : ℕ → List ℕ) (p : List ℕ) → ((i : ℕ) → i < n → b i ≡ b' i) → taken_up n b p ≡ taken_up n b' p
unfolding taken_up
taken_as zero b b' p e = refl
taken_as (suc n) b b' p e = ap₂ (λ (x y : List ℕ). xor_bytes (times_x x) y) (taken_as n b b' p (λ i l. e i (omega (arith, l)))) (e n (omega arith))

-- the first one, and those behind it
pub taken_first : (n : ℕ) (b : ℕ → List ℕ) (p : List ℕ) → taken_up n (λ i. b (suc i)) (xor_bytes (times_x p) (b 0)) ≡ taken_up (suc n) b p
unfolding taken_up
taken_first zero b p = refl
taken_first (suc n) b p = ap (λ (x : List ℕ). xor_bytes (times_x x) (b (suc n))) (taken_first n b p)

-- n of them, and m more
pub taken_add : (n m : ℕ) (b : ℕ → List ℕ) (p : List ℕ) → taken_up (n + m) b p ≡ taken_up m (λ j. b (n + j)) (taken_up n b p)
unfolding taken_up
taken_add n zero b p = ap (λ (k : ℕ). taken_up k b p) (let e : n + 0 ≡ n = omega arith in e)
taken_add n (suc m) b p =
    ap (λ (k : ℕ). taken_up k b p) (let e : n + suc m ≡ suc (n + m) = omega arith in e) ∙ ap (λ (x : List ℕ). xor_bytes (times_x x) (b (n + m))) (taken_add n m b p)
