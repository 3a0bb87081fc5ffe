-- Whole blocks alone, or these and the last one with the padding.
use mathlib.Core.Path.{refl, ap, ◌∙◌}
use Prim.Native.Nat.{◌+◌, ◌*◌, ◌/◌}
use native.Mathlib.Omega.{arith}
use lib.ListN.{length}
use Rattle.groups.specs.Group.{block_of}
use Rattle.groups.proofs.Loop.{holds_as, turn, ends}
use Rattle.mode.specs.Mode.{padded}
use Rattle.blocks.proofs.Parts.{back_is}
use Rattle.runs.proofs.Text.{whole-block, last_block}
use Rattle.runs.proofs.group.load_text.Goals as goal

pub returns-then-n-whole : goal.returns-then-n-whole
returns-then-n-whole c =
    let text = c.args.text.now in
    holds_as _ (block_of text) (block_of (padded text)) _ c.load.ensures (λ i l. whole-block text i (omega (arith, l, c.if-n-whole.true)))

pub returns : goal.returns
returns c =
    let text = c.args.text.now in
    let w = length text / 16 in
    let b = block_of (padded text) in
    let whole = holds_as w (block_of text) b _ c.load-2.ensures (λ i l. whole-block text i l) in
    ends b (w + 1) _ _ _ (turn b w _ _ _ _ (record { done = whole; rest = λ j h. refl }) c.put.ensures (c.padded_block-last.ensures ∙ ap padded (back_is (w * 16) text) ∙ last_block text)) c.requires.n_in_bounds
