-- The four bytes, spelt out.
use Rattle.aes_steps.proofs.Words.{word-spelt}
use Rattle.aes_steps.proofs.schedule.word_at.Goals as goal

pub returns : goal.returns
returns c = let a = c.args in word-spelt a.w.now a.i
