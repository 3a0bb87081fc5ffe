use mathlib.Core.Path.{◌≡◌, sym, ap, ◌∙◌}
use Prim.Native.Nat.{ℕ, ◌<◌, ◌/◌, ◌^◌}
use native.Mathlib.Omega.{arith}
use Rattle.blocks.specs.Num.{low_bytes}
use Rattle.blocks.specs.Words.{bytes_of}
use Rattle.gf128.specs.Gf128.{jump, jump_by, signed, one, power as power_of}
use Rattle.gf128.proofs.Powers.{one_bit_less}
use Rattle.gf128.proofs.JumpBy.{signed-none}
use Rattle.gf128.proofs.power.Goals as goal

pub loop-left-init : goal.loop-left-init
unfolding power_of jump_by jump one bytes_of low_bytes
loop-left-init c = let e : 0 ≡ c.args.n / 4294967296 = omega arith in ap power_of (sym (signed-none c.args.back) ∙ ap (signed c.args.back) e)

pub take_power-q-requires : goal.take_power-q-requires
take_power-q-requires c =
    let l = c.loop-left in
    let h : 0 < l.left = omega arith in
    l.invariant ∙ ap (λ (k : ℕ). power_of (signed c.args.back k)) (sym (one_bit_less c.args.n l.left h))

pub returns : goal.returns
returns c =
    let l = c.loop-left in
    let n = c.args.n in
    let back = c.args.back in
    let e : l.left ≡ 0 = omega arith in
    let d : n / 1 ≡ n = omega arith in
    l.invariant ∙ ap (λ (k : ℕ). power_of (signed back (n / 2 ^ k))) e ∙ ap (λ (k : ℕ). power_of (signed back k)) d
