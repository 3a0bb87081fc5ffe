-- Five moves.
use Rattle.gf128.proofs.Apart.{spread-apart}
use Rattle.gf128.proofs.spread.Goals as goal

pub returns : goal.returns
returns c = spread-apart c.args.x c.requires
