use borrow.Author.Rules.{rules}
use native.Mathlib.Omega.{arith}
use Rattle.blocks.specs.Num.{num}
use Rattle.blocks.specs.Words.{bytes_of}
use Rattle.gf128.proofs.Horner.{after_none, after_more, after_all_lem}
use Rattle.gf128.proofs.take_bits.Goals as goal

pub loop-left-init : goal.loop-left-init
loop-left-init c = after_none c.args.bits c.args.v (num (bytes_of c.args.b)) (num (bytes_of c.args.r))

pub loop-left-preserved : goal.loop-left-preserved
loop-left-preserved c =
    let a = c.args in
    let l = c.loop-left in
    after_more a.bits a.v (num (bytes_of a.b)) (num (bytes_of a.r)) l.left (num (bytes_of l.q)) (num (bytes_of c.take_bit-q.result))
    (omega arith) (search rules) l.invariant c.take_bit-q.ensures

pub returns : goal.returns
returns c =
    let a = c.args in
    let l = c.loop-left in
    after_all_lem a.bits a.v (num (bytes_of a.b)) (num (bytes_of a.r)) l.left (num (bytes_of l.q)) (omega arith) l.invariant
