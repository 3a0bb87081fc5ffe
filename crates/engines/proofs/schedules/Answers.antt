-- Both engines give the schedule of the key.
use mathlib.Core.Path.{sym, ap, ◌∙◌}
use lib.Dec.{eqb}
use lib.Pointwise.{pointwise}
use Rattle.std.proofs.lemmas.Cmp.{nat_list_eq_equiv}
use Rattle.engines.proofs.Engines.{engines_equal}
use Rattle.engines.proofs.schedules.Goals as goal

pub returns : goal.returns
returns c =
    let one = c.expand-one.result in
    let e = engines_equal.schedules _ _ _ c.expand-one.ensures c.expand-other.ensures in
    c.eq.ensures ∙ sym (ap (pointwise eqb one) e) ∙ nat_list_eq_equiv.refl one
