-- The whole of a slice of 16 bytes is its block.
use mathlib.Core.Path.{ap₂, ◌∙◌}
use Rattle.mode.specs.Mode.{start_mask}
use Rattle.mode.specs.Aes.{aes}
use Rattle.blocks.proofs.Parts.{whole_16}
use Rattle.tags.proofs.prepare.prepare.Goals as goal

pub start_mask-start-requires : goal.start_mask-start-requires
start_mask-start-requires c = c.expand-keys.ensures.schedule

pub returns : goal.returns
returns c =
    let k = c.expand-keys.ensures.of in
    record {
      expanded = record { schedule = c.expand-keys.ensures.schedule; of = k };
      started = c.start_mask-start.ensures ∙ ap₂ (start_mask aes) k (c.load-v.ensures ∙ whole_16 c.args.iv.now c.requires.iv_len);
    }
