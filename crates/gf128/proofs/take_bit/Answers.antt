-- The bit times b, word by word, and x r.
use borrow.Author.Rules.{rules}
use Rattle.blocks.proofs.Bridge.{proper_by}
use Rattle.gf128.proofs.Horner.{bit_fits, bit_taken}
use Rattle.gf128.proofs.take_bit.Goals as goal

pub overflow_mul-result : goal.overflow_mul-result
overflow_mul-result c = let a = c.args in bit_fits a.bit a.b.high (search rules) (search rules)

pub overflow_mul-result-2 : goal.overflow_mul-result-2
overflow_mul-result-2 c = let a = c.args in bit_fits a.bit a.b.low (search rules) (search rules)

pub returns : goal.returns
returns c =
    let a = c.args in
    let t = c.times_x-t.result in
    bit_taken a.bit a.r a.b t (search rules) (proper_by a.b (search rules) (search rules)) (proper_by t (search rules) (search rules)) c.times_x-t.ensures
