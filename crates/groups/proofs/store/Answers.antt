use borrow.Author.Rules.{rules}
use mathlib.Core.Path.{◌≡◌, refl, ap, ap₂, ◌∙◌}
use mathlib.Core.List.{List, ◌++◌}
use Prim.Native.Nat.{ℕ, ◌*◌}
use native.Mathlib.Omega.{arith}
use lib.ListN.{length, drop}
use Rattle.blocks.proofs.Num.{length-low_bytes}
use Rattle.groups.specs.Group.{in_turn}
use Rattle.groups.proofs.Front.{front_begins, front_long, front_turn, two_words}
use Rattle.groups.proofs.store.Invariants.{bytes}
use Rattle.groups.proofs.store.Goals as goal
use Rattle.groups.proofs.store.Tie as tie
use Rattle.groups.proofs.store.Lts as lts
use Rattle.groups.proofs.store.Reads as reads

abbrev At_at_loop : Type 0
At_at_loop = lts.At-loop tie.the-claims reads.Pre reads.Post goal.the-invariant-loop-i goal.the-decreases-loop-i tie.handed_clauses

long-d : (c : At_at_loop) → length c.loop-i.d ≡ length c.args.d.now
long-d c = front_long 8 (bytes c.args.group.now) c.loop-i.i c.args.d.now c.loop-i.d (λ j h. length-low_bytes 8 _) c.loop-i.invariant.1 (omega arith)

pub loop-i-init : goal.loop-i-init
loop-i-init c = (search rules, front_begins 8 _ _)

pub loop-i-preserved : goal.loop-i-preserved
loop-i-preserved c =
    let a = c.args in
    (search rules, front_turn 8 (bytes a.group.now) c.loop-i.i a.d.now c.loop-i.d (λ j h. length-low_bytes 8 _) c.loop-i.invariant.1 _ _ refl c.store_word.ensures)

pub returns : goal.returns
returns c =
    let a = c.args in
    let e : c.loop-i.i ≡ a.n * 2 = omega (arith, c.loop-i.invariant.0, c.loop-i-test.false) in
    c.loop-i.invariant.1
    ∙ ap₂ (λ (k m : ℕ). in_turn k (bytes a.group.now) ++ drop m a.d.now) e (let q : c.loop-i.i * 8 ≡ a.n * 16 = omega (arith, e) in q)
    ∙ ap (λ (x : List ℕ). x ++ drop (a.n * 16) a.d.now) (two_words a.group.now a.n)
