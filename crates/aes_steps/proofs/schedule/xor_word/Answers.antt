-- Four bytes, each with its own.
use borrow.Author.Rules.{rules}
use Rattle.blocks.proofs.Tab.{tab-xor}
use Rattle.aes_steps.proofs.schedule.xor_word.Goals as goal

pub returns : goal.returns
returns c = tab-xor 4 c.args.a c.args.b (search rules) (search rules)
