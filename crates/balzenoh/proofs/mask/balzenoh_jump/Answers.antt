-- The call, its number alone.
use mathlib.Core.Path.{◌≡◌, ap, ◌∙◌}
use mathlib.Core.List.{List}
use lib.IntN.{ℤ}
use lib.ListN.{length}
use Prim.Native.Nat.{ℕ}
use mir.Syntax.{w32}
use mir.ValLaws.{to_z-of_z}
use Rattle.mode.specs.Refusals.{number_in}
use Rattle.mode.specs.Calls.{Outcome, jump_mask, written_of}
use Rattle.mode.proofs.Demands.{demand1}
use Rattle.mode.proofs.Numbers.{written_number}
use Rattle.balzenoh.proofs.mask.balzenoh_jump.Goals as goal

-- the distance that was handed on is the one that the machine reads, which is the distance
pub returns : goal.returns
returns c =
    let a = c.args in
    let room = length a.out.now in
    let x = c.jump.ensures in
    let o : ◌≡◌ {A = Outcome (List ℕ)} _ _ = ap (λ (d : ℤ). jump_mask a.mask.now d room) (to_z-of_z w32 a.distance c.ranges.distance) in
    record {
      answer = c.number.ensures ∙ ap number_in (x.answer ∙ ap written_of o) ∙ written_number (jump_mask a.mask.now a.distance room) room (demand1.of_jump a.mask.now a.distance room);
      output = x.output ∙ ap (λ (r : Outcome (List ℕ)). r.output) o;
    }
