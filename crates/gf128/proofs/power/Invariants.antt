-- The power by the bits passed: with `left` bits to come, q is the power n / 2^left, of x or of 1/x.
use mathlib.Core.Path.{◌≡◌}
use Prim.Native.Nat.{◌/◌, ◌^◌}
use Rattle.blocks.specs.Words.{bytes_of}
use Rattle.gf128.specs.Gf128.{signed, power as power_of}
use Rattle.gf128.proofs.power.Given as goal

abbrev pub invariant-loop-left : goal.invariant-loop-left
invariant-loop-left l = bytes_of l.q ≡ power_of (signed l.back (l.n / 2 ^ l.left))
