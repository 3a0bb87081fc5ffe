-- A loop that joins a record on at each turn.
use Rattle.record_list.proofs.Loop.{Right}
use Rattle.list_cases.proofs.list.Given as goal

abbrev pub invariant-loop-next : goal.invariant-loop-next
invariant-loop-next l = Right l.next-index l.so_far.last
