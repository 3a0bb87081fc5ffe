-- The loop has r, times x once for each bit passed, and b times these bits.
use Rattle.blocks.specs.Num.{num}
use Rattle.blocks.specs.Words.{bytes_of}
use Rattle.gf128.proofs.Horner.{After}
use Rattle.gf128.proofs.take_bits.Given as goal

abbrev pub invariant-loop-left : goal.invariant-loop-left
invariant-loop-left l = After l.bits l.v (num (bytes_of l.b)) (num (bytes_of l.initial.q)) l.left (num (bytes_of l.q))
