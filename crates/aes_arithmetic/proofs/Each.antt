-- A function at each byte of a block, after another.
use mathlib.Core.Path.{◌≡◌, ap, ◌∙◌}
use mathlib.Core.List.{List}
use Prim.Native.Nat.{ℕ}
use lib.ListN.{get_or}
use Rattle.blocks.specs.Tab.{tab}
use Rattle.blocks.proofs.Tab.{get_or-tab, tab_ext}

pub each-each : (f g : ℕ → ℕ) (s : List ℕ) {t r : List ℕ} → t ≡ tab 16 (λ i. g (get_or s i 0)) → r ≡ tab 16 (λ i. f (get_or t i 0))
    → r ≡ tab 16 (λ i. f (g (get_or s i 0)))
each-each f g s {t} et er =
    er ∙ tab_ext 16 (λ i. f (get_or t i 0)) (λ i. f (g (get_or s i 0)))
    (λ i h. ap f (ap (λ (z : List ℕ). get_or z i 0) et ∙ get_or-tab 16 i (λ i. g (get_or s i 0)) h))
