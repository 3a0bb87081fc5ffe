-- The two words of the quotient by x.
use borrow.Author.Rules.{rules}
use Rattle.blocks.proofs.Bridge.{proper_by}
use Rattle.gf128.proofs.WordsX.{over_x-words}
use Rattle.gf128.proofs.over_x.Goals as goal

pub returns : goal.returns
returns c = let b = c.args.b in over_x-words b (proper_by b (search rules) (search rules))
