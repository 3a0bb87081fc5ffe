-- The loop has written i words to the front; at the end two words are a block.
use mathlib.Core.List.{List}
use Prim.Native.Nat.{ℕ, ◌*◌, ◌≤◌}
use lib.ListN.{get_or}
use Rattle.blocks.specs.Num.{low_bytes}
use Rattle.groups.proofs.Front.{Front}
use Rattle.groups.proofs.store.Given as goal

abbrev pub bytes : List ℕ → ℕ → List ℕ
bytes group k = low_bytes 8 (get_or group k 0)

abbrev pub invariant-loop-i : goal.invariant-loop-i
invariant-loop-i l = (l.i ≤ l.n * 2) × Front 8 (bytes l.group) l.i l.initial.d l.d
