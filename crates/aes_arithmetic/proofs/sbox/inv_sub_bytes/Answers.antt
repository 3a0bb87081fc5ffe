-- One step after the other, at each byte.
use Rattle.fips197.specs.Gf256.{inverse}
use Rattle.fips197.specs.Sbox.{inv_affine, inv_sbox}
use Rattle.fips197.specs.State.{inv_sub_bytes}
use Rattle.aes_arithmetic.proofs.Each.{each-each}
use Rattle.aes_arithmetic.proofs.sbox.inv_sub_bytes.Goals as goal

pub returns : goal.returns
unfolding inv_sub_bytes inv_sbox
returns c = each-each inverse inv_affine c.args.s c.inv_affines-t.ensures c.inverses.ensures
