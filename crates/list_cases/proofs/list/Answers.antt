use mathlib.Core.Path.{sym, subst}
use Prim.Native.Nat.{◌+◌, ◌^◌, ◌<◌}
use native.Mathlib.Omega.{arith}
use Rattle.mode.specs.declared.KeptAnswer.{KeptAnswer}
use Rattle.record_list.proofs.Loop.{Right, right_start, right_keeps, right_onto}
use Rattle.list_cases.proofs.list.Goals as goal

pub loop-next-init : goal.loop-next-init
loop-next-init c = subst (λ (s : KeptAnswer). Right 0 s.last) (sym c.start-so_far.ensures) right_start

pub onto-so_far-requires : goal.onto-so_far-requires
onto-so_far-requires c =
    let l = c.loop-next in
    let h : l.next-index + 1 < 2 ^ 64 = omega arith in
    right_keeps l.next-index l.so_far.last l.invariant h

pub loop-next-preserved : goal.loop-next-preserved
loop-next-preserved c =
    let l = c.loop-next in
    subst (λ (s : KeptAnswer). Right (l.next-index + 1) s.last) (sym c.onto-so_far.ensures) (right_onto l.next-index l.so_far _ l.invariant)
