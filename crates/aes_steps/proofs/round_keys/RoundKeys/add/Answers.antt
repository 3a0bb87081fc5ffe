use borrow.Author.Rules.{rules}
use mathlib.Core.Path.{refl, ◌∙◌}
use Rattle.blocks.proofs.Tab.{fill_none, fill_more, fill_all}
use Rattle.aes_steps.proofs.Columns.{keyed, add-key}
use Rattle.aes_steps.proofs.round_keys.RoundKeys.add.Invariants.{at}
use Rattle.aes_steps.proofs.round_keys.RoundKeys.add.Goals as goal

pub loop-i-init : goal.loop-i-init
loop-i-init c = (search rules, fill_none 16 _)

pub loop-i-preserved : goal.loop-i-preserved
loop-i-preserved c =
    let a = c.args in
    (search rules, fill_more 16 (keyed a.self.now.schedule.now a.n (at a.s)) c.loop-i.i (search rules) c.loop-i.invariant.1 refl)

pub returns : goal.returns
returns c =
    let a = c.args in
    fill_all 16 (keyed a.self.now.schedule.now a.n (at a.s)) c.loop-i.i (search rules) (search rules) c.loop-i.invariant.1
    ∙ add-key a.self.now.schedule.now a.n (at a.s) a.s (search rules) (search rules) (search rules) (λ i h. refl)
