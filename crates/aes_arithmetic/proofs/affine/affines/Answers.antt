use borrow.Author.Rules.{rules}
use Rattle.blocks.proofs.Tab.{fill_none, fill_more, fill_all}
use Rattle.aes_arithmetic.proofs.affine.affines.Invariants.{done}
use Rattle.aes_arithmetic.proofs.affine.affines.Goals as goal

pub loop-i-init : goal.loop-i-init
loop-i-init c = (search rules, fill_none 16 _)

pub loop-i-preserved : goal.loop-i-preserved
loop-i-preserved c = (search rules, fill_more 16 (done c.args.s) c.loop-i.i (search rules) c.loop-i.invariant.1 c.affine.ensures)

pub returns : goal.returns
returns c = fill_all 16 (done c.args.s) c.loop-i.i c.loop-i.invariant.0 c.loop-i-test.false c.loop-i.invariant.1
