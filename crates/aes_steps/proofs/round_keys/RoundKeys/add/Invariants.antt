-- The loop has added the first i bytes of the round key.
use mathlib.Core.Path.{◌≡◌}
use mathlib.Core.List.{List}
use Prim.Native.Nat.{ℕ, ◌≤◌}
use lib.ListN.{get_or}
use Rattle.blocks.proofs.Tab.{filled}
use Rattle.aes_steps.proofs.Columns.{keyed}
use Rattle.aes_steps.proofs.round_keys.RoundKeys.add.Given as goal

abbrev pub at : List ℕ → ℕ → ℕ
at s i = get_or s i 0

abbrev pub invariant-loop-i : goal.invariant-loop-i
invariant-loop-i l = (l.i ≤ 16) × (l.r ≡ filled 16 (keyed l.self.schedule.now l.n (at l.s)) l.i)
