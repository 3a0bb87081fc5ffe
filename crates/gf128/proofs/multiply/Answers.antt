-- The lower word alone; or the upper word, then the lower one.
use borrow.Author.Rules.{rules}
use Rattle.blocks.proofs.Bridge.{proper_by}
use Rattle.gf128.proofs.Horner.{product-low, product-words}
use Rattle.gf128.proofs.multiply.Goals as goal

pub returns-then-a-eq0 : goal.returns-then-a-eq0
returns-then-a-eq0 c =
    let a = c.args in
    product-low a.a a.b c.times_word.result (proper_by a.a (search rules) (search rules)) c.if-a-eq0.true c.times_word.ensures

pub returns : goal.returns
returns c =
    let a = c.args in
    product-words a.a a.b c.times_word-upper.result c.take_bits.result (proper_by a.a (search rules) (search rules))
    c.times_word-upper.ensures c.take_bits.ensures
