-- Lists of zeros, bytes stored among them, and outputs that hold them.
use mathlib.Core.Path.{◌≡◌, refl, sym, ap, ap₂, ◌∙◌}
use mathlib.Core.List.{List, [], ◌∷◌, ◌++◌}
use Prim.Native.Nat.{ℕ, zero, suc, ◌+◌, ◌-◌, ◌<◌}
use native.Mathlib.Omega.{arith}
use lib.ListN.{length, take, drop, set, length-replicate}
use lib.Seq.{set_at, take_at, drop-append-add}
use Rattle.blocks.specs.Bytes.{zeros, Fresh}

pub drop-zeros : (n m : ℕ) → drop n (zeros m) ≡ zeros (m - n)
drop-zeros zero m = ap zeros (let e : m ≡ m - 0 = omega arith in e)
drop-zeros (suc n) zero = ap zeros (let e : 0 ≡ 0 - suc n = omega arith in e)
drop-zeros (suc n) (suc m) = drop-zeros n m ∙ ap zeros (let e : m - n ≡ suc m - suc n = omega arith in e)

pub length-zeros : (n : ℕ) → length (zeros n) ≡ n
length-zeros n = length-replicate {A = ℕ} n 0

-- the first of some zeros set
pub set-zeros : (a : List ℕ) (n v : ℕ) → 0 < n → set (a ++ zeros n) (length a) v ≡ a ++ (v ∷ zeros (n - 1))
set-zeros a zero v h = absurd (omega arith)
set-zeros a (suc n) v h = set_at a 0 (zeros n) v (length a) refl ∙ ap (λ (k : ℕ). a ++ (v ∷ zeros k)) (let e : n ≡ suc n - 1 = omega arith in e)

pub zeros-append : (m n : ℕ) → zeros m ++ zeros n ≡ zeros (m + n)
zeros-append zero n = ap zeros (let e : n ≡ 0 + n = omega arith in e)
zeros-append (suc m) n = ap (λ (t : List ℕ). 0 ∷ t) (zeros-append m n) ∙ ap zeros (let e : suc (m + n) ≡ suc m + n = omega arith in e)

-- k bytes stored after a front of n bytes, in front of zeros
pub stored_after : (k : ℕ) (front old new b : List ℕ) (n left : ℕ) → length front ≡ n → old ≡ front ++ zeros left → new ≡ take n old ++ b ++ drop (n + k) old
    → new ≡ front ++ b ++ zeros (left - k)
stored_after k front old new b n left l eo en =
    en ∙ ap (λ (z : List ℕ). take n z ++ b ++ drop (n + k) z) eo
    ∙ ap₂ (λ (x y : List ℕ). x ++ b ++ y) (take_at front (zeros left) n l)
    (ap (λ (j : ℕ). drop (j + k) (front ++ zeros left)) (sym l) ∙ drop-append-add front (zeros left) k ∙ drop-zeros k left)

pub stored_front : (k : ℕ) (old new b : List ℕ) (room : ℕ) → old ≡ zeros room → new ≡ take 0 old ++ b ++ drop (0 + k) old → new ≡ b ++ zeros (room - k)
stored_front k old new b room = stored_after k [] old new b 0 room refl

-- ---- outputs

-- a cleared output
pub fresh : (n : ℕ) (new : List ℕ) → new ≡ zeros n → Fresh new
fresh n new e = record { zero = e ∙ ap zeros (sym (ap length e ∙ length-zeros n)) }

-- one that held zeros, written to the front
pub over_zeros : (n m : ℕ) (output old new : List ℕ) → n ≡ m → old ≡ zeros (length old) → new ≡ output ++ drop n old → new ≡ output ++ zeros (length old - m)
over_zeros n m output old new e eo en =
    en ∙ ap (λ (x : List ℕ). output ++ drop n x) eo ∙ ap (λ (x : List ℕ). output ++ x) (drop-zeros n (length old) ∙ ap (λ (k : ℕ). zeros (length old - k)) e)
