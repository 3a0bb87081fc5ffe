-- What holds at each turn is `Going` of proofs/Loop.antt.
use Rattle.record_list.proofs.Loop.{Going}
use Rattle.record_list.proofs.join_counted.Given as goal

abbrev pub invariant-loop-next : goal.invariant-loop-next
invariant-loop-next l = Going l.records l.next-index l.so_far
