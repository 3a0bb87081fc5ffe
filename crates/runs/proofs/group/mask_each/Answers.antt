use borrow.Author.Rules.{rules}
use mathlib.Core.Path.{◌≡◌, refl, sym, ap, ap₂, ◌∙◌}
use Prim.Native.Nat.{ℕ}
use native.Mathlib.Omega.{arith}
use native.Mathlib.Numerals.{add-one}
use Rattle.blocks.specs.Bytes.{xor_bytes}
use Rattle.blocks.specs.Words.{bytes_of}
use Rattle.gf128.specs.Gf128.{times_x, jump}
use Rattle.groups.proofs.Loop.{begins, turn, ends}
use Rattle.runs.proofs.group.mask_each.Goals as goal

pub loop-i-init : goal.loop-i-init
unfolding jump
loop-i-init c = (search rules, begins _ _ (search rules), begins _ _ (search rules), refl)

pub loop-i-preserved : goal.loop-i-preserved
unfolding jump
loop-i-preserved c =
    let i = c.loop-i.i in
    let m = bytes_of c.args.mask in (
      search rules,
      turn _ i _ c.loop-i.group c.put.new.group _ c.loop-i.invariant.1 c.put.ensures
          (c.bitxor-masked.ensures ∙ ap₂ xor_bytes (c.get-block.ensures ∙ c.loop-i.invariant.1.rest i (omega arith)) c.loop-i.invariant.3),
      turn _ i _ c.loop-i.masks c.put-in-loop-i.new.group _ c.loop-i.invariant.2 c.put-in-loop-i.ensures c.loop-i.invariant.3,
      c.times_x-next.ensures ∙ ap times_x c.loop-i.invariant.3 ∙ ap (λ (k : ℕ). jump k m) (sym (add-one i)),
    )

pub returns : goal.returns
returns c =
    let a = c.args in
    record {
      blocks = ends _ c.loop-i.i _ _ _ c.loop-i.invariant.1 c.loop-i-test.false;
      kept = ends _ c.loop-i.i _ _ _ c.loop-i.invariant.2 c.loop-i-test.false;
      after = c.loop-i.invariant.3 ∙ ap (λ (k : ℕ). jump k (bytes_of a.mask)) (let e : c.loop-i.i ≡ a.n = omega (arith, c.loop-i.invariant.0, c.loop-i-test.false) in e);
    }
