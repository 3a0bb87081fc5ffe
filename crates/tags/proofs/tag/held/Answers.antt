-- Stored in front of zeros.
use borrow.Author.Rules.{rules}
use mathlib.Core.Path.{◌≡◌, refl, sym, ap, ◌∙◌}
use mathlib.Core.List.{◌++◌}
use Prim.Native.Nat.{ℕ, ◌-◌}
use lib.ListN.{length}
use Rattle.blocks.specs.Bytes.{zeros}
use Rattle.blocks.proofs.Zeros.{stored_front}
use Rattle.mode.specs.Calls.{held_tag}
use Rattle.tags.proofs.tag.held.Goals as goal

pub returns : goal.returns
unfolding held_tag
returns c =
    let tag = c.args.tag in
    let long : length tag ≡ 16 = search rules in
    stored_front 16 (zeros 20) c.store.new.d tag 20 refl c.store.ensures
    ∙ ap (λ (n : ℕ). tag ++ zeros (20 - n)) (sym long)
