-- By what the steps ensure.
use Rattle.aes_steps.proofs.Halves.{inv_second_half_by_lem}
use Rattle.aes_steps.proofs.cipher.Cipher.inv_second_half.Goals as goal

pub returns : goal.returns
returns g c = inv_second_half_by_lem _ c.args.s _ _ _ c.half-half.ensures _ _ c.last-last.ensures c.add-t.ensures c.inv_shift_sub-u.ensures c.inv_rounds.ensures
