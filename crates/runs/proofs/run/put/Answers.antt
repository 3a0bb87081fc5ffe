-- Stored behind the offset, or nothing.
use mathlib.Core.Path.{refl, sym, ap, ◌∙◌}
use mathlib.Core.List.{List, ◌++◌}
use Prim.Native.Nat.{ℕ, ◌+◌, ◌*◌, ◌≤◌}
use native.Mathlib.Omega.{arith}
use lib.ListN.{length, take, length-drop}
use Rattle.groups.specs.Group.{in_front}
use Rattle.runs.specs.Group.{Stored}
use Rattle.blocks.proofs.Parts.{back_is, back_put}
use Rattle.runs.proofs.Where.{where_true, where_false}
use Rattle.runs.proofs.run.put.Goals as goal
use Rattle.runs.proofs.run.put.Tie as tie
use Rattle.runs.proofs.run.put.Lts as lts
use Rattle.runs.proofs.run.put.Reads as reads

abbrev At_then1 : Type 0
At_then1 = lts.Then1 tie.the-claims reads.Pre reads.Post tie.handed_clauses

room : (c : At_then1) → c.args.at + c.args.n * 16 ≤ length c.args.out.now
room c = c.requires.room (sym c.writes.ensures ∙ c.if-writes.true)

pub slice_bounds-store-count : goal.slice_bounds-store-count
slice_bounds-store-count c = omega (arith, room c.before.before)

pub slice_bounds-store-start : goal.slice_bounds-store-start
slice_bounds-store-start c = omega (arith, room c.before.before)

pub store-requires : goal.store-requires
store-requires c =
    record {
      n_bound = c.requires.n_bound;
      n_in_bounds = omega (arith, room c.before.before, length-drop c.args.at c.args.out.now);
    }

pub returns-then-writes : goal.returns-then-writes
unfolding Stored
returns-then-writes c =
    let a = c.args in
    let old = a.out.now in
    where_true _ _ _ _ (sym c.writes.ensures ∙ c.if-writes.true)
    (back_put a.at old c.store.new.out
    ∙ ap (λ (x : List ℕ). take a.at old ++ x) (c.store.ensures ∙ ap (in_front a.n _) (back_is a.at old)))

pub returns-else-writes : goal.returns-else-writes
unfolding Stored
returns-else-writes c = where_false _ _ _ _ (sym c.writes.ensures ∙ c.if-writes.false) refl
