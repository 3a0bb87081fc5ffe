-- Word by word.
use borrow.Author.Rules.{rules}
use Rattle.blocks.proofs.Bridge.{proper_by, xor-words}
use Rattle.blocks.proofs.words.WordsBitXor.bitxor.Goals as goal

pub returns : goal.returns
returns c =
    let a = c.args in
    xor-words a.self a.other (proper_by a.self (search rules) (search rules)) (proper_by a.other (search rules) (search rules))
