-- The masks are added, and the sums stored.
use mathlib.Core.Path.{ap, ◌∙◌}
use mathlib.Core.List.{List, ◌++◌}
use Prim.Native.Nat.{ℕ, ◌*◌}
use lib.ListN.{drop}
use Rattle.groups.proofs.Front.{turn_as}
use Rattle.runs.proofs.group.store.Goals as goal

pub returns : goal.returns
returns c =
    let a = c.args in
    c.store.ensures ∙ ap (λ (x : List ℕ). x ++ drop (a.n * 16) a.out.now) (turn_as a.n _ _ c.xor.ensures.at)
