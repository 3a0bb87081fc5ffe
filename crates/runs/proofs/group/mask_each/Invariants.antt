-- The loop has masked i blocks and kept their masks, and has the next one.
use mathlib.Core.Path.{◌≡◌}
use Prim.Native.Nat.{◌≤◌}
use Rattle.blocks.specs.Bytes.{xor_bytes}
use Rattle.blocks.specs.Words.{bytes_of}
use Rattle.gf128.specs.Gf128.{jump}
use Rattle.groups.specs.Group.{block_at}
use Rattle.groups.proofs.Loop.{During}
use Rattle.runs.proofs.group.mask_each.Given as goal

abbrev pub invariant-loop-i : goal.invariant-loop-i
invariant-loop-i l = (l.i ≤ l.n) × During l.i (λ j. xor_bytes (block_at l.initial.group j) (jump j (bytes_of l.initial.m))) l.initial.group l.group
    × During l.i (λ j. jump j (bytes_of l.initial.m)) l.initial.masks l.masks × (bytes_of l.m ≡ jump l.i (bytes_of l.initial.m))
