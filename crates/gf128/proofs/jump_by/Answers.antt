-- The number of blocks and the direction make up the distance.
use mathlib.Core.Path.{ap, ◌∙◌}
use lib.IntN.{ℤ, pos, nat_abs}
use lib.Signed.{lt_z}
use mir.Syntax.{w32}
use mir.ValLaws.{to_z-of_z}
use Rattle.blocks.specs.Words.{bytes_of}
use Rattle.gf128.specs.Gf128.{jump_by, signed}
use Rattle.gf128.proofs.JumpBy.{signed_all}
use Rattle.gf128.proofs.jump_by.Goals as goal

pub returns : goal.returns
returns c =
    let d = c.args.distance in
    c.jump_towards.ensures
    ∙ ap (λ (e : ℤ). jump_by e (bytes_of c.args.b))
    (ap (λ (z : ℤ). signed (lt_z z (pos 0)) c.unsigned_abs.result) (to_z-of_z w32 d c.ranges.distance)
    ∙ ap (signed (lt_z d (pos 0))) (c.unsigned_abs.ensures.value ∙ ap nat_abs (to_z-of_z w32 d c.ranges.distance)) ∙ signed_all d)
