-- The blocks that the loop has copied, and the others.
use Prim.Native.Nat.{◌≤◌}
use Rattle.groups.specs.Group.{block_at}
use Rattle.groups.proofs.Loop.{During}
use Rattle.groups.proofs.copy.Given as goal

abbrev pub invariant-loop-i : goal.invariant-loop-i
invariant-loop-i l = (l.i ≤ l.n) × During l.i (block_at l.from) l.initial.group l.group
