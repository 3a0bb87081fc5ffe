-- The loop has moved the bytes that come to the first i indices.
use mathlib.Core.Path.{◌≡◌}
use mathlib.Core.List.{List}
use Prim.Native.Nat.{ℕ, ◌≤◌, ◌+◌, ◌*◌, ◌%◌}
use lib.ListN.{get_or}
use Rattle.blocks.proofs.Tab.{filled}
use Rattle.aes_steps.proofs.state.turn_rows.Given as goal

abbrev pub turned : ℕ → List ℕ → ℕ → ℕ
turned places s i = get_or s ((i + i % 4 * places) % 16) 0

abbrev pub invariant-loop-i : goal.invariant-loop-i
invariant-loop-i l = (l.i ≤ 16) × (l.r ≡ filled 16 (turned l.places l.s) l.i)
