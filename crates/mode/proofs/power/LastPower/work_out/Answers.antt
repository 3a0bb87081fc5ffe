-- The power of the variable, forwards.
use borrow.Author.Rules.{rules}
use mathlib.Core.Path.{ap}
use Prim.Native.Nat.{◌+◌}
use lib.IntN.{pos}
use Rattle.std.specs.Prelude.{Some}
use Rattle.blocks.specs.declared.words.Words.{Words}
use Rattle.blocks.proofs.Bridge.{proper_by, words_of_lem}
use Rattle.gf128.specs.Gf128.{power as power_of, signed}
use Rattle.mode.specs.Powers.{worked_out}
use Rattle.mode.proofs.power.LastPower.work_out.Goals as goal

pub returns-clause-power : goal.returns-clause-power
unfolding signed
returns-clause-power c = c.power-power.ensures

pub returns-clause-last : goal.returns-clause-last
unfolding worked_out signed
returns-clause-last c =
    let a = c.args in
    let w = c.power-power.result in
    ap (λ (p : Words). record { kept = Some (record { count = a.count; power = p }); total = a.self.total + 1 })
    (words_of_lem w (power_of (pos a.count)) (proper_by w (search rules) (search rules)) c.power-power.ensures)
