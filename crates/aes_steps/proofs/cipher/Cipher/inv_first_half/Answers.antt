-- By what the steps ensure.
use Rattle.aes_steps.proofs.Halves.{inv_first_half_by_lem}
use Rattle.aes_steps.proofs.cipher.Cipher.inv_first_half.Goals as goal

pub returns : goal.returns
returns g c = inv_first_half_by_lem _ c.args.s _ _ _ c.half-half.ensures c.inv_rounds-t.ensures c.add.ensures
