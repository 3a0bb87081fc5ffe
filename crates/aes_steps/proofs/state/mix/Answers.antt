-- One doubling serves 02 and 03.
use borrow.Author.Rules.{rules}
use mathlib.Core.Path.{ap, ◌∙◌}
use Prim.Native.Nat.{ℕ}
use lib.Bits.{bit_xor}
use Rattle.fips197.proofs.Mix.{mix_once}
use Rattle.aes_steps.proofs.state.mix.Goals as goal

pub returns : goal.returns
returns c =
    let a = c.args in
    ap (λ (x : ℕ). bit_xor x (bit_xor a.b (bit_xor a.c a.d))) c.double.ensures ∙ mix_once a.a a.b a.c a.d (search rules) (search rules)
