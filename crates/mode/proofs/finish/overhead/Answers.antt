-- The sum is small.
use native.Mathlib.Omega.{arith}
use Rattle.mode.proofs.Finishes.{tag_within}
use Rattle.mode.proofs.finish.overhead.Goals as goal

pub overflow_add-result : goal.overflow_add-result
overflow_add-result c = record { fits = omega (arith, c.tag_length.ensures, tag_within c.args.finish) }
