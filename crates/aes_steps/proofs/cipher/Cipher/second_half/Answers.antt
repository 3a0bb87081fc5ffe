-- By what the steps ensure.
use Rattle.aes_steps.proofs.Halves.{second_half_by_lem}
use Rattle.aes_steps.proofs.cipher.Cipher.second_half.Goals as goal

pub returns : goal.returns
returns g c = second_half_by_lem _ c.args.s _ _ _ c.half-half.ensures _ _ c.last-last.ensures c.rounds-t.ensures c.sub_shift-u.ensures c.add.ensures
