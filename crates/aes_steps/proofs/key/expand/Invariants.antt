-- The loop has worked out the words before word i.
use mathlib.Core.Path.{◌≡◌}
use Prim.Native.Nat.{◌≤◌, ◌+◌, ◌*◌}
use Rattle.fips197.specs.Aes.{nk_of}
use Rattle.aes_steps.proofs.Words.{expanded}
use Rattle.aes_steps.proofs.key.expand.Given as goal

abbrev pub invariant-loop-i : goal.invariant-loop-i
invariant-loop-i g l = (nk_of l.key ≤ l.i) × (l.i ≤ 4 * (nk_of l.key + 7)) × (l.w ≡ expanded l.key l.i)
