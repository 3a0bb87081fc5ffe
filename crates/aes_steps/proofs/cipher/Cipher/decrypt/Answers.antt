-- Copied, the second half undone, stored, the first undone, loaded.
use borrow.Author.Rules.{rules}
use mathlib.Core.Path.{ap, ◌∙◌}
use Rattle.groups.specs.Group.{block_at}
use Rattle.groups.proofs.Front.{length-block_at, front-blocks}
use Rattle.groups.proofs.Loop.{holds_as}
use Rattle.aes_steps.specs.Schedule.{inv_first_half_by, inv_second_half_by}
use Rattle.aes_steps.proofs.Halves.{length-inv_first_half_by}
use Rattle.aes_steps.proofs.Each.{stepped_blocks}
use Rattle.aes_steps.proofs.cipher.Cipher.decrypt.Goals as goal

pub returns : goal.returns
returns g c =
    let n = c.args.n in
    let keys = c.args.self.now.keys.schedule.now in
    let m = c.middletexts.new.group in
    let middle = holds_as n _ _ m c.middletexts.ensures (λ i l. ap (inv_second_half_by keys) (c.copy.ensures.at i l)) in
    let stored = front-blocks n (block_at m) _ _ (λ j l. length-block_at m j) c.store.ensures in
    let one =
    stepped_blocks (inv_first_half_by keys) n (block_at m) _ _ (λ i. length-inv_first_half_by keys c.args.self.now.keys.fits (block_at m i) (length-block_at m i)) stored
    (c.each.ensures (inv_first_half_by keys) (λ b r p. search rules)) in
    record {
      middle = middle;
      group = holds_as n _ _ _ c.load.ensures (λ i l. one i l ∙ ap (inv_first_half_by keys) (middle.at i l));
    }
