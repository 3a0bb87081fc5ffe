-- The sums, one after another.
use Rattle.fips180.specs.Sha1.{rotl}
use Rattle.fips180.proofs.compress.step.Goals as goal

pub returns : goal.returns
unfolding rotl
returns c = cc
