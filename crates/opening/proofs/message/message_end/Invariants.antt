-- From the end: what has been passed is zeros.
use mathlib.Core.Path.{◌≡◌}
use Prim.Native.Nat.{◌-◌}
use lib.ListN.{length, drop}
use Rattle.blocks.specs.Bytes.{zeros}
use Rattle.opening.proofs.message.message_end.Given as goal

abbrev pub invariant-loop-end : goal.invariant-loop-end
invariant-loop-end l = (length l.block ≡ 16) × (drop l.end l.block ≡ zeros (16 - l.end))
