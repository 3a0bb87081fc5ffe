-- The distance that was handed on is the one that the machine reads, which is the distance.
use mathlib.Core.Path.{◌≡◌, ap, ◌∙◌}
use mathlib.Core.List.{List}
use Prim.Native.Nat.{ℕ}
use lib.IntN.{ℤ}
use lib.ListN.{length}
use mir.Syntax.{w32}
use mir.ValLaws.{to_z-of_z}
use Rattle.mode.specs.Calls.{Outcome, jump_mask, number}
use Rattle.arbitrary.proofs.exported.jump.Goals as goal

pub returns : goal.returns
returns c =
    let x = c.balzenoh_jump.ensures in
    let o : ◌≡◌ {A = Outcome (List ℕ)} _ _ = ap (λ (d : ℤ). jump_mask c.args.mask.now d (length c.args.out.now)) (to_z-of_z w32 c.args.distance c.ranges.distance) in
    (x.answer ∙ ap (λ (r : Outcome (List ℕ)). number r.answer) o, x.output ∙ ap (λ (r : Outcome (List ℕ)). r.output) o)
