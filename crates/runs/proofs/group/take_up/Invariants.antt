-- The loop has taken up i middletexts.
use mathlib.Core.Path.{◌≡◌}
use Prim.Native.Nat.{◌≤◌}
use Rattle.blocks.specs.Words.{bytes_of}
use Rattle.groups.specs.Group.{block_at}
use Rattle.runs.specs.Group.{taken_up}
use Rattle.runs.proofs.group.take_up.Given as goal

abbrev pub invariant-loop-i : goal.invariant-loop-i
invariant-loop-i l = (l.i ≤ l.n) × (bytes_of l.p ≡ taken_up l.i (block_at l.middle) (bytes_of l.initial.p))
