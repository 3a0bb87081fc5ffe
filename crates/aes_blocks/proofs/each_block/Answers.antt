use borrow.Author.Rules.{rules}
use mathlib.Core.Path.{◌≡◌, refl}
use Prim.Native.Nat.{ℕ, ◌*◌, ◌<◌}
use native.Mathlib.Omega.{arith}
use lib.ListN.{length, drop, length-drop}
use lib.Seq.{length-take-le}
use Rattle.groups.specs.Group.{block_of}
use Rattle.groups.proofs.Front.{front_begins, front_ends}
use Rattle.cipher.specs.Keys.{key_of}
use Rattle.aes_blocks.proofs.Groups.{group_turn}
use Rattle.aes_blocks.proofs.each_block.Goals as goal

pub loop-i-init : goal.loop-i-init
loop-i-init g c = (search rules, front_begins 16 _ _)

pub loop-i-preserved : goal.loop-i-preserved
unfolding block_of
loop-i-preserved g c =
    let text = c.args.text.now in
    let i = c.loop-i.i in
    let f = g.D.Direction.cipher (key_of c.args.keys.now) in
    let long : (j : ℕ) → j < i → length (f (block_of text j)) ≡ 16 =
    λ j l. g.met.D.Direction.long (key_of c.args.keys.now) (block_of text j) c.requires.expanded.size (length-take-le 16 (drop (j * 16) text) (omega (arith, length-drop (j * 16) text, c.loop-i.invariant.0))) in
    (search rules, group_turn f text i c.in_group-n.result c.args.out.now c.loop-i.out _ _ long c.loop-i.invariant.1 c.step.ensures refl)

pub returns : goal.returns
returns g c = front_ends 16 _ c.loop-i.i _ _ _ c.loop-i.invariant.0 c.loop-i-test.false c.loop-i.invariant.1
