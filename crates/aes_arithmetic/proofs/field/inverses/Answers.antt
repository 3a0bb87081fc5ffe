-- Each square doubles the exponent, and each product adds two.
use borrow.Author.Rules.{rules}
use Rattle.blocks.specs.Bytes.{Block}
use Rattle.blocks.proofs.Array.{block-by}
use Rattle.fips197.specs.Gf256.{inverse}
use Rattle.aes_arithmetic.proofs.Powers.{powers_one, powers_add}
use Rattle.aes_arithmetic.proofs.field.inverses.Goals as goal

pub returns : goal.returns
unfolding inverse
returns c =
    let s = c.args.s in
    let b : Block s = block-by s (search rules) (λ i. search rules) in
    let e1 = powers_one s b in
    let e2 = powers_add s b 1 1 e1 e1 c.squares-s2.ensures in
    let e3 = powers_add s b 2 1 e2 e1 c.products-s3.ensures in
    let e6 = powers_add s b 3 3 e3 e3 c.squares-s6.ensures in
    let e12 = powers_add s b 6 6 e6 e6 c.squares-s12.ensures in
    let e15 = powers_add s b 12 3 e12 e3 c.products-s15.ensures in
    let e30 = powers_add s b 15 15 e15 e15 c.squares-s30.ensures in
    let e60 = powers_add s b 30 30 e30 e30 c.squares-s60.ensures in
    let e120 = powers_add s b 60 60 e60 e60 c.squares-s120.ensures in
    let e240 = powers_add s b 120 120 e120 e120 c.squares-s240.ensures in
    let e252 = powers_add s b 240 12 e240 e12 c.products-s252.ensures in
    powers_add s b 252 2 e252 e2 c.products.ensures
