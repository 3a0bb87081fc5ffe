use borrow.Author.Rules.{rules}
use mathlib.Core.Path.{◌≡◌, refl, sym, ◌∙◌}
use Prim.Native.Nat.{◌-◌}
use native.Mathlib.Omega.{arith}
use Rattle.blocks.proofs.Chunks.{length-blocks}
use Rattle.fips197.specs.Cipher.{inv_round, round_key}
use Rattle.aes_steps.specs.Schedule.{round_keys_in}
use Rattle.fips197.proofs.Rounds.{inv_rounds_turn, inv_rounds_end}
use Rattle.aes_steps.proofs.cipher.Cipher.inv_rounds.Goals as goal

pub loop-i-init : goal.loop-i-init
loop-i-init g c = (search rules, search rules, refl)

pub loop-i-preserved : goal.loop-i-preserved
unfolding inv_round
loop-i-preserved g c =
    let i = c.loop-i.i in
    let t = c.loop-i.t in
    let w = c.args.self.now.keys.schedule.now in
    let e : c.inv_shift_sub-u.result ≡ inv_round t (round_key (round_keys_in w) (i - 1)) = cc in
    (search rules, search rules, inv_rounds_turn (round_keys_in w) c.args.from i t c.inv_shift_sub-u.result c.loop-i-test.true (rw length-blocks (omega (arith, c.loop-i.invariant.1))) e ∙ c.loop-i.invariant.2)

pub returns : goal.returns
returns g c =
    let a = c.args in
    sym (inv_rounds_end (round_keys_in a.self.now.keys.schedule.now) a.from c.loop-i.i c.loop-i.t c.loop-i.invariant.0 c.loop-i-test.false) ∙ c.loop-i.invariant.2
