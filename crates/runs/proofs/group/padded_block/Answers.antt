-- The bytes in front of zeros, and the byte 80 behind them.
use mathlib.Core.Path.{ap, ap₂, ◌∙◌}
use mathlib.Core.List.{List, ◌++◌}
use Prim.Native.Nat.{ℕ}
use lib.ListN.{length, set}
use Rattle.blocks.proofs.Zeros.{drop-zeros}
use Rattle.runs.proofs.Text.{padded_there}
use Rattle.runs.proofs.group.padded_block.Goals as goal

pub returns : goal.returns
returns c =
    let rest = c.args.rest.now in
    c.from.ensures ∙ ap (λ (x : List ℕ). set x (length rest) 0x80) (ap₂ (λ (x y : List ℕ). x ++ y) c.copy_from_slice.ensures.after (drop-zeros (length rest) 16)) ∙ padded_there rest c.requires
