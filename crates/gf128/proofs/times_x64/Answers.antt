-- The two words of the product with x^64.
use borrow.Author.Rules.{rules}
use Rattle.blocks.proofs.Bridge.{proper_by}
use Rattle.gf128.proofs.Powers.{jump64_words}
use Rattle.gf128.proofs.times_x64.Goals as goal

pub returns : goal.returns
returns c = let b = c.args.b in jump64_words b (proper_by b (search rules) (search rules))
