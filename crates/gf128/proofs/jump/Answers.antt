-- The signed jump for 0 and above.
use Rattle.gf128.specs.Gf128.{jump_by, signed}
use Rattle.gf128.proofs.jump.Goals as goal

pub returns : goal.returns
unfolding jump_by signed
returns c = c.jump_towards.ensures
