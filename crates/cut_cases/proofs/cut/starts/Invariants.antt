-- No start is beyond the last block.
use Prim.Native.Nat.{◌≤◌}
use Rattle.cut_cases.proofs.cut.starts.Given as goal

abbrev pub invariant-loop-start : goal.invariant-loop-start
invariant-loop-start l = l.at ≤ l.count
