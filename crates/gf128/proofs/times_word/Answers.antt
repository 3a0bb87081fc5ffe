-- The bits from the highest one down, from nothing.
use borrow.Author.Rules.{rules}
use mir.Syntax.{w64}
use mir.Val.{Fits}
use Rattle.blocks.specs.Num.{num}
use Rattle.blocks.specs.Words.{bytes_of}
use Rattle.gf128.proofs.Horner.{word_first}
use Rattle.gf128.proofs.times_word.Goals as goal

pub returns : goal.returns
returns c =
    let a = c.args in
    let f : Fits w64 a.v = search rules in
    word_first a.v (num (bytes_of a.b)) (num (bytes_of c.take_bits.result)) f.fits c.take_bits.ensures
