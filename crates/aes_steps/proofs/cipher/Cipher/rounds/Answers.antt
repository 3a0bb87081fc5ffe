use borrow.Author.Rules.{rules}
use mathlib.Core.Path.{◌≡◌, refl, sym, ◌∙◌}
use Rattle.blocks.proofs.Chunks.{length-blocks}
use Rattle.fips197.specs.Cipher.{round, round_key}
use Rattle.aes_steps.specs.Schedule.{round_keys_in}
use Rattle.fips197.proofs.Rounds.{rounds_turn, rounds_end}
use Rattle.aes_steps.proofs.cipher.Cipher.rounds.Goals as goal

pub loop-i-init : goal.loop-i-init
loop-i-init g c = (search rules, refl)

pub loop-i-preserved : goal.loop-i-preserved
unfolding round
loop-i-preserved g c =
    let i = c.loop-i.i in
    let t = c.loop-i.t in
    let w = c.args.self.now.keys.schedule.now in
    let e : c.add-u.result ≡ round t (round_key (round_keys_in w) i) = cc in
    (search rules, rounds_turn (round_keys_in w) i c.args.to t c.add-u.result c.loop-i-test.true (rw length-blocks (search rules)) e ∙ c.loop-i.invariant.1)

pub returns : goal.returns
returns g c =
    let a = c.args in
    sym (rounds_end (round_keys_in a.self.now.keys.schedule.now) c.loop-i.i a.to c.loop-i.t c.loop-i.invariant.0 c.loop-i-test.false) ∙ c.loop-i.invariant.1
