-- Loaded, through the cipher, stored.
use Rattle.cipher.specs.Keys.{key_of}
use Rattle.aes_blocks.proofs.Groups.{group_stored}
use Rattle.aes_blocks.proofs.step.Goals as goal

pub returns : goal.returns
returns g c = group_stored c.args.n (g.D.Direction.cipher (key_of c.args.keys.now)) _ _ _ _ _ c.load.ensures c.through.ensures c.store.ensures
