use borrow.Author.Rules.{rules}
use Rattle.groups.specs.Group.{block_of}
use Rattle.aes_steps.proofs.Each.{stepped_none, stepped_more, stepped_all}
use Rattle.aes_steps.proofs.group.each.Goals as goal

pub loop-i-init : goal.loop-i-init
loop-i-init g c = (search rules, search rules, stepped_none _ _)

pub loop-i-preserved : goal.loop-i-preserved
unfolding block_of
loop-i-preserved g c = (
  search rules,
  search rules,
  stepped_more _ c.loop-i.i _ c.loop-i.text _ _ _ c.loop-i.invariant.2 c.load-block.ensures c.step-after.ensures (search rules) c.store.ensures,
)

pub returns : goal.returns
returns g c = stepped_all _ c.loop-i.i _ _ _ c.loop-i.invariant.0 c.loop-i-test.false c.loop-i.invariant.2
