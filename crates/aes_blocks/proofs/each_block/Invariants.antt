-- The loop has done i blocks; the rest of the output is as it was.
use Prim.Native.Nat.{◌-◌, ◌≤◌}
use Rattle.groups.specs.Group.{block_of}
use Rattle.groups.proofs.Front.{Front}
use Rattle.cipher.specs.Keys.{key_of}
use Rattle.aes_blocks.proofs.each_block.Given as goal

abbrev pub invariant-loop-i : goal.invariant-loop-i
invariant-loop-i g l = (l.i ≤ l.count) × Front 16 (λ i. g.D.Direction.cipher (key_of l.keys) (block_of l.text i)) l.i l.initial.out l.out

abbrev pub decreases-loop-i : goal.decreases-loop-i
decreases-loop-i g l = l.count - l.i
