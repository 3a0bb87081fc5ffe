-- The groups that the loop has done are a run over their blocks.
use mathlib.Core.Path.{◌≡◌}
use Prim.Native.Nat.{◌-◌, ◌≤◌}
use lib.ListN.{length}
use Rattle.blocks.specs.Words.{bytes_of}
use Rattle.cipher.specs.Keys.{key_of}
use Rattle.mode.specs.Mode.{padded}
use Rattle.runs.specs.Group.{Done}
use Rattle.runs.proofs.run.run.Given as goal

abbrev pub invariant-loop-i : goal.invariant-loop-i
invariant-loop-i l = (l.i ≤ l.count) × (length l.out ≡ length l.initial.out)
    × Done l.task l.i (key_of l.keys) (padded l.text) (bytes_of l.initial.chain.mask) (bytes_of l.initial.chain.preauthenticator) 0 l.initial.out l.out (bytes_of l.chain.mask) (bytes_of l.chain.preauthenticator)

abbrev pub decreases-loop-i : goal.decreases-loop-i
decreases-loop-i l = l.count - l.i
