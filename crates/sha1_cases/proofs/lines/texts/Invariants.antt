-- A turn takes one line off the front, and the count goes up by at most one.
use Prim.Native.Nat.{◌≤◌, ◌+◌}
use lib.ListN.{length}
use Rattle.sha1_cases.proofs.lines.texts.Given as goal

abbrev pub invariant-loop-head : goal.invariant-loop-head
invariant-loop-head l = l.agreed + length l.left ≤ length l.fn.lines

abbrev pub decreases-loop-head : goal.decreases-loop-head
decreases-loop-head l = length l.left
