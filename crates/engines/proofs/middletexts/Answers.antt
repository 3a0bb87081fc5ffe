-- Whatever two engines give of the same blocks is the same.
use mathlib.Core.Path.{refl}
use Rattle.engines.proofs.Engines.{engines_equal}
use Rattle.engines.proofs.middletexts.Goals as goal

pub returns : goal.returns
returns c = c.same_blocks.ensures.agree (engines_equal.middletexts c.args.n _ _ _ _ _ (record { at = λ i l. refl }) c.middletexts.ensures c.middletexts-2.ensures)
