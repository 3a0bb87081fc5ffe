use borrow.Author.Rules.{rules}
use Rattle.aes_arithmetic.proofs.Powers.{multiplied_none, multiplied_more, multiplied_all}
use Rattle.aes_arithmetic.proofs.field.product.Goals as goal

pub loop-i-init : goal.loop-i-init
loop-i-init c = (search rules, multiplied_none _ _)

pub loop-i-preserved : goal.loop-i-preserved
loop-i-preserved c =
    let a = c.args in (
      search rules,
      multiplied_more a.a a.b c.loop-i.r c.loop-i.multiple c.loop-i.i _ _ c.loop-i-test.true c.loop-i.invariant.1 c.where_set-r.ensures c.double-multiple.ensures,
    )

pub returns : goal.returns
returns c = multiplied_all c.args.a c.args.b c.loop-i.r c.loop-i.multiple c.loop-i.i c.loop-i-test.false c.loop-i.invariant.1
