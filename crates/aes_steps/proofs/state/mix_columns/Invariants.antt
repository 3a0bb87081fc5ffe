-- The loop has written the columns before column i.
use mathlib.Core.Path.{◌≡◌}
use mathlib.Core.List.{List}
use Prim.Native.Nat.{ℕ, ◌≤◌, ◌*◌}
use Rattle.blocks.proofs.Tab.{filled}
use Rattle.fips197.specs.State.{below, mix}
use Rattle.aes_steps.proofs.state.mix_columns.Given as goal

abbrev pub mixed : List ℕ → ℕ → ℕ
mixed s i = mix (below s i 0) (below s i 1) (below s i 2) (below s i 3)

abbrev pub invariant-loop-i : goal.invariant-loop-i
invariant-loop-i l = (l.i ≤ 4) × (l.r ≡ filled 16 (mixed l.s) (l.i * 4))
