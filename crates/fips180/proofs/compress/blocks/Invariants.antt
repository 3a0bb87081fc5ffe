-- What is left to hash, from the present hash value, comes to the same.
use Rattle.std.proofs.Common.{◌≡◌, ◌-◌, ◌*◌, drop}
use Rattle.fips180.specs.Sha1.{hash}
use Rattle.fips180.proofs.compress.blocks.Given as goal

abbrev pub invariant-loop-i : goal.invariant-loop-i
invariant-loop-i l = hash (l.n - l.i) (drop (l.i * 64) l.s) l.r ≡ hash l.n l.s l.initial.r
