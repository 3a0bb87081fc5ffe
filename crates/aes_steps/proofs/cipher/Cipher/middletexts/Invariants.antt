-- The blocks that the loop has done, and the others, which are as they were.
use Prim.Native.Nat.{◌≤◌}
use Rattle.groups.specs.Group.{block_at}
use Rattle.groups.proofs.Loop.{During}
use Rattle.aes_steps.specs.Schedule.{inv_second_half_by}
use Rattle.aes_steps.proofs.cipher.Cipher.middletexts.Given as goal

abbrev pub invariant-loop-i : goal.invariant-loop-i
invariant-loop-i g l = (l.i ≤ l.n) × During l.i (λ j. inv_second_half_by l.self.keys.schedule.now (block_at l.initial.group j)) l.initial.group l.group
