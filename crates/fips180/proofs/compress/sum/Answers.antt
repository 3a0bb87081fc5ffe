-- Five sums.
use Rattle.fips180.specs.Sha1.{sums}
use Rattle.fips180.proofs.compress.sum.Goals as goal

pub returns : goal.returns
unfolding sums
returns c = cc
