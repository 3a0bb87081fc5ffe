-- The blocks that the loop has loaded, and the others.
use Prim.Native.Nat.{◌≤◌}
use Rattle.groups.specs.Group.{block_of}
use Rattle.groups.proofs.Loop.{During}
use Rattle.groups.proofs.load.Given as goal

abbrev pub invariant-loop-i : goal.invariant-loop-i
invariant-loop-i l = (l.i ≤ l.n) × During l.i (block_of l.s) l.initial.group l.group
