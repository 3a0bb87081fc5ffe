-- What is written where a test says so.
use mathlib.Core.Path.{◌≡◌, sym, ap, ◌∙◌}
use mathlib.Core.Bool.{Bool, true, false, cond}
use mathlib.Core.List.{List}
use Prim.Native.Nat.{ℕ}

pub where_true : (w : Bool) (x y new : List ℕ) → w ≡ true → new ≡ x → new ≡ cond w x y
where_true w x y new e h = h ∙ sym (ap (λ (b : Bool). cond b x y) e)

pub where_false : (w : Bool) (x y new : List ℕ) → w ≡ false → new ≡ y → new ≡ cond w x y
where_false w x y new e h = h ∙ sym (ap (λ (b : Bool). cond b x y) e)
