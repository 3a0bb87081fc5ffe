-- The loop has written the columns before column i.
use mathlib.Core.Path.{◌≡◌}
use mathlib.Core.List.{List}
use Prim.Native.Nat.{ℕ, ◌≤◌, ◌*◌}
use Rattle.blocks.proofs.Tab.{filled}
use Rattle.fips197.specs.State.{below, inv_mix}
use Rattle.aes_steps.proofs.state.inv_mix_columns.Given as goal

abbrev pub unmixed : List ℕ → ℕ → ℕ
unmixed s i = inv_mix (below s i 0) (below s i 1) (below s i 2) (below s i 3)

abbrev pub invariant-loop-i : goal.invariant-loop-i
invariant-loop-i l = (l.i ≤ 4) × (l.r ≡ filled 16 (unmixed l.s) (l.i * 4))
