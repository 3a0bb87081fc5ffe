-- The loop has taken i blocks through the step; the others are as they were.
use mathlib.Core.Path.{◌≡◌}
use Prim.Native.Nat.{◌≤◌}
use lib.ListN.{length}
use Rattle.aes_steps.proofs.Each.{Stepped}
use Rattle.aes_steps.proofs.group.each.Given as goal

abbrev pub invariant-loop-i : goal.invariant-loop-i
invariant-loop-i g l = (l.i ≤ l.n) × (length l.text ≡ length l.initial.text) × Stepped (goal.F-post g l.step) l.i l.initial.text l.text
