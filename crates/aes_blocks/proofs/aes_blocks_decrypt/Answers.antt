-- The call in this direction.
use Rattle.aes_blocks.proofs.aes_blocks_decrypt.Goals as goal

pub returns-clause-output : goal.returns-clause-output
returns-clause-output c = c.call.ensures.output
