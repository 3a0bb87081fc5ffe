use borrow.Author.Rules.{rules}
use mathlib.Core.Path.{◌≡◌, ◌∙◌}
use native.Mathlib.Omega.{arith}
use Rattle.groups.specs.Group.{block_at}
use Rattle.groups.proofs.Loop.{begins, turn, ends}
use Rattle.aes_steps.specs.Schedule.{inv_second_half_by}
use Rattle.aes_steps.proofs.cipher.Cipher.middletexts.Goals as goal

pub loop-i-init : goal.loop-i-init
loop-i-init g c = (search rules, begins _ _ (search rules))

pub loop-i-preserved : goal.loop-i-preserved
loop-i-preserved g c =
    let i = c.loop-i.i in
    let w = c.args.self.now.keys.schedule.now in
    let b : c.from-block.result ≡ block_at c.args.group.now i = c.from-block.ensures ∙ c.get-w.ensures ∙ c.loop-i.invariant.1.rest i (omega arith) in
    let m : c.inv_second_half-middle.result ≡ inv_second_half_by w (block_at c.args.group.now i) = rw b at c.inv_second_half-middle.ensures in
    (search rules, turn _ i _ c.loop-i.group c.put.new.group _ c.loop-i.invariant.1 c.put.ensures (c.from-m.ensures ∙ m))

pub returns : goal.returns
returns g c = ends _ c.loop-i.i _ _ _ c.loop-i.invariant.1 c.loop-i-test.false
