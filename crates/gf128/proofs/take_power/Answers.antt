-- With no bit yet, x^0 stays; else the square, and one step where the bit is set.
use mathlib.Core.Path.{◌≡◌, ap, ◌∙◌}
use Prim.Native.Nat.{ℕ, ◌/◌}
use native.Mathlib.Omega.{arith}
use Rattle.blocks.specs.Words.{bytes_of}
use Rattle.gf128.specs.Gf128.{signed, power as power_of}
use Rattle.gf128.proofs.Powers.{power_half}
use Rattle.gf128.proofs.take_power.Goals as goal

pub returns-then-n-eq0 : goal.returns-then-n-eq0
returns-then-n-eq0 c = let n = c.args.n in let e : n / 2 ≡ n = omega (arith, c.if-n-eq0.true) in c.requires ∙ ap (λ (k : ℕ). power_of (signed c.args.back k)) e

pub returns : goal.returns
returns c = c.next_power.ensures ∙ power_half c.args.back c.args.n (bytes_of c.args.q) c.requires
