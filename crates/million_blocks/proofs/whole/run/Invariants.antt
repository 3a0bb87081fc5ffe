-- A run at each turn, of which at most two answers agree when it is sealed and one when it is checked.
use Prim.Native.Nat.{◌≤◌, ◌*◌}
use Rattle.million_blocks.proofs.whole.run.Given as goal

abbrev pub invariant-loop-n : goal.invariant-loop-n
invariant-loop-n l = (l.so_far.sealed ≤ 2 * l.n) × (l.so_far.checked ≤ l.n)
