use borrow.Author.Rules.{rules}
use Rattle.aes_arithmetic.proofs.Powers.{squared_none, squared_more, squared_all}
use Rattle.aes_arithmetic.proofs.field.square.Goals as goal

pub loop-i-init : goal.loop-i-init
loop-i-init c = (search rules, squared_none _)

pub loop-i-preserved : goal.loop-i-preserved
loop-i-preserved c =
    let a = c.args in
    (search rules, squared_more a.a c.loop-i.r c.loop-i.even c.loop-i.i _ _ _ c.loop-i.invariant.1 c.where_set-r.ensures c.double.ensures c.double-even.ensures)

pub returns : goal.returns
returns c = squared_all c.args.a c.loop-i.r c.loop-i.even c.loop-i.i (search rules) c.loop-i.invariant.0 c.loop-i-test.false c.loop-i.invariant.1
