-- The loop has joined the first differences.
use mathlib.Core.Path.{◌≡◌}
use lib.ListN.{length}
use Rattle.blocks.proofs.Same.{difference}
use Rattle.blocks.proofs.bytes.equal.Given as goal

abbrev pub invariant-loop-x : goal.invariant-loop-x
invariant-loop-x l = l.difference ≡ difference l.a l.b (length l.yielded)
