-- Stored, halved, loaded, halved again, loaded again.
use borrow.Author.Rules.{rules}
use Rattle.groups.specs.Group.{block_at}
use Rattle.groups.proofs.Front.{length-block_at, front-blocks}
use Rattle.groups.proofs.Loop.{holds_as}
use Rattle.aes_steps.specs.Schedule.{first_half_by, second_half_by}
use Rattle.aes_steps.proofs.Halves.{length-first_half_by, length-second_half_by}
use Rattle.aes_steps.proofs.Each.{stepped_blocks}
use Rattle.aes_steps.proofs.cipher.Cipher.encrypt.Goals as goal

pub returns : goal.returns
returns g c =
    let n = c.args.n in
    let keys = c.args.self.now.keys.schedule.now in
    let schedule = c.args.self.now.keys.fits in
    let b = block_at c.args.group.now in
    let long = length-block_at c.args.group.now in
    let stored = front-blocks n b _ _ (λ j l. long j) c.store.ensures in
    let one = stepped_blocks (first_half_by keys) n b _ _ (λ i. length-first_half_by keys schedule (b i) (long i)) stored (c.each.ensures (first_half_by keys) (λ b r p. search rules)) in
    let other = stepped_blocks (second_half_by keys) n (λ i. first_half_by keys (b i)) _ _ (λ i. length-second_half_by keys schedule _) one (c.each-2.ensures (second_half_by keys) (λ b r p. search rules)) in
    record {
      middle = holds_as _ _ _ _ c.load.ensures one;
      group = holds_as _ _ _ _ c.load-2.ensures other;
    }
