-- By the two cases of the flag.
use mathlib.Core.Path.{sym, ap}
use mathlib.Core.Bool.{Bool}
use lib.ListN.{length}
use Rattle.calls.specs.Layout.{laid_out_length}
use Rattle.calls.proofs.text.laid_out_length.Goals as goal

pub returns-then-last : goal.returns-then-last
unfolding laid_out_length
returns-then-last c = let a = c.args in ap (λ (l : Bool). laid_out_length l (length a.bytes.now)) (sym c.if-last.true)

pub returns-else-last : goal.returns-else-last
unfolding laid_out_length
returns-else-last c = let a = c.args in ap (λ (l : Bool). laid_out_length l (length a.bytes.now)) (sym c.if-last.false)
