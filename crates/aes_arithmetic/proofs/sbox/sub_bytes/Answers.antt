-- One step after the other, at each byte.
use Rattle.fips197.specs.Gf256.{inverse}
use Rattle.fips197.specs.Sbox.{affine, sbox}
use Rattle.fips197.specs.State.{sub_bytes}
use Rattle.aes_arithmetic.proofs.Each.{each-each}
use Rattle.aes_arithmetic.proofs.sbox.sub_bytes.Goals as goal

pub returns : goal.returns
unfolding sub_bytes sbox
returns c = each-each affine inverse c.args.s c.inverses-t.ensures c.affines.ensures
