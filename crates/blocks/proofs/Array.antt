-- An array of 16 bytes is a block.
use mathlib.Core.Path.{◌≡◌}
use mathlib.Core.List.{List}
use Prim.Native.Nat.{ℕ}
use mir.Val.{Fits}
use mir.Syntax.{w8}
use lib.ListN.{length, get_or}
use Rattle.blocks.specs.Bytes.{Block}

-- as the borrow checker knows an array: its length, and that each element fits a byte
pub block-by : (b : List ℕ) → length b ≡ 16 → ((i : ℕ) → Fits w8 (get_or b i 0)) → Block b
block-by b e h = record { long = e; bytes = λ i. (h i).fits }
