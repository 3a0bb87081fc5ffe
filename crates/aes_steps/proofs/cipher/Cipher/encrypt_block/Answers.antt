-- One half after the other.
use mathlib.Core.Path.{ap, ◌∙◌}
use Rattle.aes_steps.specs.Schedule.{second_half_by}
use Rattle.aes_steps.proofs.Halves.{encrypt_by_halves}
use Rattle.aes_steps.proofs.cipher.Cipher.encrypt_block.Goals as goal

pub returns : goal.returns
returns g c =
    let w = c.args.self.now.keys.schedule.now in
    c.second_half.ensures ∙ ap (second_half_by w) c.first_half-middle.ensures ∙ encrypt_by_halves w c.args.self.now.keys.fits c.args.block
