-- Two doublings of a + c serve 05 and 04.
use borrow.Author.Rules.{rules}
use mathlib.Core.Path.{ap, ◌∙◌}
use lib.Bits.{bit_xor}
use Rattle.fips197.specs.Gf256.{xtimes}
use Rattle.fips197.proofs.Mix.{even_once}
use Rattle.aes_steps.proofs.state.even.Goals as goal

pub returns : goal.returns
returns c =
    let a = c.args in
    ap (bit_xor a.a) (c.double-2.ensures ∙ ap xtimes c.double.ensures) ∙ even_once a.a a.c (search rules) (search rules)
