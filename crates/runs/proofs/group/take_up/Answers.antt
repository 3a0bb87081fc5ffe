use borrow.Author.Rules.{rules}
use mathlib.Core.Path.{◌≡◌, refl, sym, ap, ap₂, ◌∙◌}
use Prim.Native.Nat.{ℕ}
use native.Mathlib.Omega.{arith}
use native.Mathlib.Numerals.{add-one}
use Rattle.blocks.specs.Bytes.{xor_bytes}
use Rattle.blocks.specs.Words.{bytes_of}
use Rattle.gf128.specs.Gf128.{times_x}
use Rattle.groups.specs.Group.{block_at}
use Rattle.runs.specs.Group.{taken_up}
use Rattle.runs.proofs.group.take_up.Goals as goal

pub loop-i-init : goal.loop-i-init
unfolding taken_up
loop-i-init c = (search rules, refl)

pub loop-i-preserved : goal.loop-i-preserved
unfolding taken_up
loop-i-preserved c =
    let i = c.loop-i.i in
    let b = block_at c.args.middle.now in
    let p = bytes_of c.args.preauthenticator in (
      search rules,
      c.bitxor-next.ensures ∙ ap₂ xor_bytes (c.times_x-moved.ensures ∙ ap times_x c.loop-i.invariant.1) c.get-added.ensures ∙ ap (λ (k : ℕ). taken_up k b p) (sym (add-one i)),
    )

pub returns : goal.returns
returns c =
    let a = c.args in
    c.loop-i.invariant.1 ∙ ap (λ (k : ℕ). taken_up k (block_at a.middle.now) (bytes_of a.preauthenticator)) (let e : c.loop-i.i ≡ a.n = omega (arith, c.loop-i.invariant.0, c.loop-i-test.false) in e)
