-- Parts of a slice: the whole of one, and the part from the n-th byte on, lent and put back.
use mathlib.Core.Path.{◌≡◌, refl, sym, ap, ◌∙◌}
use mathlib.Core.List.{List, [], ◌∷◌, ◌++◌, append-nil}
use Prim.Native.Nat.{ℕ, ◌-◌}
use native.Mathlib.Nat.{le_of_eq}
use lib.ListN.{length, take, drop, length-drop}
use lib.Seq.{take_all}

-- the whole of a slice of 16 bytes
pub whole_16 : (a : List ℕ) → length a ≡ 16 → take 16 a ≡ a
whole_16 a e = take_all 16 a (le_of_eq e)

pub drop_all : (x : List ℕ) → drop (length x) x ≡ []
drop_all [] = refl
drop_all (a ∷ x) = drop_all x

pub back_is : (n : ℕ) (old : List ℕ) → take (length old - n) (drop n old) ≡ drop n old
back_is n old = take_all (length old - n) (drop n old) (le_of_eq (length-drop n old))

pub back_put : (n : ℕ) (old new : List ℕ) → take n old ++ (new ++ drop (length old - n) (drop n old)) ≡ take n old ++ new
back_put n old new =
    ap (λ (z : List ℕ). take n old ++ (new ++ z)) (ap (λ (k : ℕ). drop k (drop n old)) (sym (length-drop n old)) ∙ drop_all (drop n old))
    ∙ ap (λ (z : List ℕ). take n old ++ z) (append-nil new)
