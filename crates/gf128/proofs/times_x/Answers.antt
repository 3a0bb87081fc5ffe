-- The two words of the product with x.
use borrow.Author.Rules.{rules}
use Rattle.blocks.proofs.Bridge.{proper_by}
use Rattle.gf128.proofs.WordsX.{times_x-words}
use Rattle.gf128.proofs.times_x.Goals as goal

pub returns : goal.returns
returns c = let b = c.args.b in times_x-words b (proper_by b (search rules) (search rules))
