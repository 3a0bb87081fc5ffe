-- The blocks as bytes, compared.
use mathlib.Core.Path.{◌≡◌, refl, sym, subst, ap, ap₂, ◌∙◌}
use mathlib.Core.Bool.{Bool, true, false}
use mathlib.Core.List.{List, ◌++◌}
use Prim.Native.Nat.{ℕ, ◌*◌}
use lib.Dec.{T}
use lib.ListN.{drop}
use Rattle.blocks.specs.Bytes.{same, zeros}
use Rattle.blocks.proofs.Same.{same_refl}
use Rattle.groups.proofs.Front.{turn_as}
use Rattle.engines.proofs.same_blocks.Goals as goal

pub returns-clause-compared : goal.returns-clause-compared
returns-clause-compared c = c.equal.ensures ∙ ap₂ same c.store.ensures c.store-2.ensures

pub returns-clause-agree : goal.returns-clause-agree
returns-clause-agree c = λ a.
    let n = c.args.n in
    let e : c.store.new.d ≡ c.store-2.new.d = c.store.ensures ∙ ap (λ (b : List ℕ). b ++ drop (n * 16) (zeros 512)) (turn_as n _ _ a.at) ∙ sym c.store-2.ensures in
    c.equal.ensures ∙ passes _ (subst (λ (x : List ℕ). T (same c.store.new.d x)) e (same_refl c.store.new.d))
  where
    passes : (b : Bool) → T b → b ≡ true
    passes true t = refl
    passes false t = absurd t
