-- Whatever two engines give of the same blocks is the same.
use mathlib.Core.Path.{refl}
use Rattle.engines.proofs.Engines.{engines_equal}
use Rattle.engines.proofs.enciphered.Goals as goal

pub returns : goal.returns
returns c =
    let a = engines_equal.forwards c.args.n _ _ _ _ _ _ _ (record { at = λ i l. refl }) c.encipher-one.ensures c.encipher-other.ensures in
    c.agrees.ensures a.1 a.0
