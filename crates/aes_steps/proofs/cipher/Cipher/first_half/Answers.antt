-- By what the steps ensure.
use Rattle.aes_steps.proofs.Halves.{first_half_by_lem}
use Rattle.aes_steps.proofs.cipher.Cipher.first_half.Goals as goal

pub returns : goal.returns
returns g c = first_half_by_lem _ c.args.s _ _ _ c.half-half.ensures c.add-t.ensures c.rounds.ensures
