-- One half after the other.
use mathlib.Core.Path.{ap, ◌∙◌}
use Rattle.aes_steps.specs.Schedule.{inv_first_half_by}
use Rattle.aes_steps.proofs.Halves.{decrypt_by_halves}
use Rattle.aes_steps.proofs.cipher.Cipher.decrypt_block.Goals as goal

pub returns : goal.returns
returns g c =
    let w = c.args.self.now.keys.schedule.now in
    c.inv_first_half.ensures ∙ ap (inv_first_half_by w) c.inv_second_half-middle.ensures ∙ decrypt_by_halves w c.args.self.now.keys.fits c.args.block
