-- The four bytes, spelt out.
use Rattle.aes_steps.proofs.Words.{turned_spelt}
use Rattle.aes_steps.proofs.schedule.turned.Goals as goal

pub returns : goal.returns
returns c = turned_spelt c.args.subbed c.args.round c.requires.le_round c.requires.round_bound
