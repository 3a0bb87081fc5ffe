-- By what each rotation gives.
use borrow.Author.Rules.{rules}
use mathlib.Core.Path.{◌∙◌}
use lib.Bits.{bit_xor}
use Rattle.aes_arithmetic.proofs.Rotations.{inv_affine_turns}
use Rattle.aes_arithmetic.proofs.affine.inv_affine.Goals as goal

pub returns : goal.returns
returns c =
    let x = c.args.x in
    (λ j. bit_xor (bit_xor (bit_xor (c.rotate_left.ensures j) (c.rotate_left-2.ensures j)) (c.rotate_left-3.ensures j)) 0x05)
    ∙ inv_affine_turns x (search rules)
