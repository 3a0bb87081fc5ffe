use borrow.Author.Rules.{rules}
use mathlib.Core.Path.{◌≡◌, refl, sym, ap, ◌∙◌}
use Prim.Native.Nat.{◌*◌, ◌≤◌}
use native.Mathlib.Omega.{arith}
use lib.ListN.{length, drop, length-drop}
use Rattle.blocks.specs.Num.{low_bytes}
use Rattle.blocks.specs.Words.{bytes_of}
use Rattle.mode.specs.Mode.{padded}
use Rattle.blocks.proofs.Parts.{back_is}
use Rattle.runs.proofs.Text.{padded_behind}
use Rattle.runs.proofs.Groups.{none_done, more_done, done_as}
use Rattle.runs.proofs.Walk.{done-ran}
use Rattle.runs.proofs.run.run.Goals as goal
use Rattle.runs.proofs.run.run.Tie as tie
use Rattle.runs.proofs.run.run.Lts as lts
use Rattle.runs.proofs.run.run.Reads as reads

abbrev At_in_loop : Type 0
At_in_loop = lts.In-loop tie.the-claims reads.Pre reads.Post goal.the-invariant-loop-i goal.the-decreases-loop-i tie.handed_clauses

-- a block that is left starts in the text
starts : (c : At_in_loop) → c.loop-i.i * 16 ≤ length c.args.text.now
starts c = omega (arith, c.loop-i-test.true, c.requires.count_in_bounds)

pub loop-i-init : goal.loop-i-init
loop-i-init c = (search rules, refl, none_done _ _ _ _ _ _)

pub overflow_mul-at : goal.overflow_mul-at
overflow_mul-at c = let h = starts c.before.before in search (rules, h)

pub slice_bounds-step-count : goal.slice_bounds-step-count
slice_bounds-step-count c = omega (arith, starts c.before.before)

pub slice_bounds-step-start : goal.slice_bounds-step-start
slice_bounds-step-start c = omega (arith, starts c.before.before)

pub step-next-requires : goal.step-next-requires
step-next-requires c =
    let g = c.in_group-n.ensures in record {
      expanded = c.requires.expanded;
      n_bound = g.fits;
      n_in_bounds = omega (arith, g.within, starts c.before.before.before.before, c.requires.count_in_bounds, length-drop (c.loop-i.i * 16) c.args.text.now);
      room = λ w. let h = c.requires.room w in omega (arith, h, g.within, c.loop-i-test.true, c.loop-i.invariant.1);
    }

pub overflow_add-i : goal.overflow_add-i
overflow_add-i c = let g = c.in_group-n.ensures in search (rules, g)

pub loop-i-smaller : goal.loop-i-smaller
loop-i-smaller c =
    let g = c.in_group-n.ensures in
    omega (arith, g.some, g.within, c.loop-i-test.true)

pub loop-i-preserved : goal.loop-i-preserved
loop-i-preserved c =
    let a = c.args in
    let text = a.text.now in
    let i = c.loop-i.i in
    let st : i * 16 ≤ length text = omega (arith, c.loop-i-test.true, c.requires.count_in_bounds) in
    let g = c.in_group-n.ensures in
    let next = done_as _ _ _ _ _ (drop (i * 16) (padded text)) _ _ _ _ _ _ _ refl (ap padded (back_is (i * 16) text) ∙ sym (padded_behind i text st)) c.step-next.ensures in (
      omega (arith, g.within, c.loop-i-test.true),
      c.step-next.auto.out ∙ c.loop-i.invariant.1,
      more_done _ i _ _ (padded text) _ _ _ _ _ _ _ _ _ c.loop-i.invariant.2 next,
    )

pub returns : goal.returns
unfolding bytes_of low_bytes
returns c =
    let e : c.loop-i.i ≡ c.args.count = omega (arith, c.loop-i.invariant.0, c.loop-i-test.false) in
    done-ran _ _ _ _ _ _ _ _ _ _ (done_as _ _ _ _ _ _ _ _ _ _ _ _ _ e refl c.loop-i.invariant.2)
