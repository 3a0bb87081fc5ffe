use borrow.Author.Rules.{rules}
use Rattle.groups.specs.Group.{block_of}
use Rattle.groups.proofs.Loop.{turn}
use Rattle.groups.proofs.load.Goals as goal

pub loop-i-preserved : goal.loop-i-preserved
unfolding block_of
loop-i-preserved c = (
  search rules,
  turn _ c.loop-i.i _ c.loop-i.group c.put.new.group _ c.loop-i.invariant.1 c.put.ensures c.load-w.ensures,
)
