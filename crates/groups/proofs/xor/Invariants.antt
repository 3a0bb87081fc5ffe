-- The blocks that the loop has done, and the others, which are as they were.
use Prim.Native.Nat.{◌≤◌}
use Rattle.blocks.specs.Bytes.{xor_bytes}
use Rattle.groups.specs.Group.{block_at}
use Rattle.groups.proofs.Loop.{During}
use Rattle.groups.proofs.xor.Given as goal

abbrev pub invariant-loop-i : goal.invariant-loop-i
invariant-loop-i l = (l.i ≤ l.n) × During l.i (λ j. xor_bytes (block_at l.initial.group j) (block_at l.other j)) l.initial.group l.group
