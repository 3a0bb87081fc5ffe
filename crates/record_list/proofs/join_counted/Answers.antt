use Rattle.std.proofs.Common.{arith}
use Rattle.record_list.proofs.Loop.{begins, turn, ends as counted}
use Rattle.record_list.proofs.join_counted.Goals as goal

pub loop-next-init : goal.loop-next-init
loop-next-init c = begins c.args.records.now c.start-so_far.result c.start-so_far.ensures

pub loop-next-preserved : goal.loop-next-preserved
loop-next-preserved c =
    turn c.args.records.now c.loop-next.next-index c.loop-next.so_far c.loop-next.invariant _ c.onto-so_far.result (omega arith) c.onto-so_far.ensures

pub returns : goal.returns
returns c = counted c.args.records.now c.loop-next.next-index c.loop-next.so_far c.loop-next.invariant (omega arith)
