-- The text of the hash finish, laid out over zeros; and a tag as it is held.
use mathlib.Core.Path.{◌≡◌, refl, ap, ap₂, ◌∙◌}
use mathlib.Core.List.{List, ◌++◌}
use Prim.Native.Nat.{ℕ, ◌+◌, ◌-◌}
use native.Mathlib.Omega.{arith}
use lib.ListN.{length, take, drop, length-append}
use lib.Seq.{take_at}
use Rattle.blocks.specs.Bytes.{zeros}
use Rattle.blocks.proofs.Zeros.{stored_after, stored_front}

-- the key to the front, and two blocks behind it
pub laid_out_lem : (key p m t₀ t₁ t₂ t₃ : List ℕ) → length p ≡ 16 → t₀ ≡ zeros 64 → t₁ ≡ take 0 t₀ ++ key ++ drop (0 + length key) t₀
    → t₂ ≡ take (length key) t₁ ++ p ++ drop (length key + 16) t₁ → t₃ ≡ take (length key + 16) t₂ ++ m ++ drop (length key + 16 + 16) t₂
    → t₃ ≡ key ++ p ++ m ++ zeros (32 - length key)
laid_out_lem key p m t₀ t₁ t₂ t₃ lp e₀ e₁ e₂ e₃ =
    stored_after 16 (key ++ p) t₂ t₃ m (length key + 16) (64 - length key - 16) (length-append key p ∙ ap (λ (n : ℕ). length key + n) lp)
    (stored_after 16 key t₁ t₂ p (length key) (64 - length key) refl (stored_front (length key) t₀ t₁ key 64 e₀ e₁) e₂) e₃
    ∙ ap (λ (n : ℕ). key ++ p ++ m ++ zeros n) (let e : 64 - length key - 16 - 16 ≡ 32 - length key = omega arith in e)

-- and read again
pub read_again : (key p m t : List ℕ) (n : ℕ) → length p ≡ 16 → length m ≡ 16 → n ≡ length key + 32 → t ≡ key ++ p ++ m ++ zeros (32 - length key)
    → take n t ≡ key ++ p ++ m
read_again key p m t n lp lm en e =
    ap (take n) e
    ∙ take_at (key ++ p ++ m) (zeros (32 - length key)) n
    (length-append (key ++ p) m ∙ ap₂ (λ (x y : ℕ). x + y) (length-append key p ∙ ap (λ (k : ℕ). length key + k) lp) lm ∙ omega (arith, en))
