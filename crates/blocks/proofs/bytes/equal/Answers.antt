use borrow.Author.Rules.{rules}
use mathlib.Core.Path.{refl, ap, ap₂, sym, ◌∙◌}
use Prim.Native.Nat.{ℕ}
use native.Mathlib.Omega.{arith}
use denote.Ref.{Bor}
use lib.Bits.{bit_or, bit_xor}
use lib.Dec.{eqb}
use lib.ListN.{length}
use Rattle.std.proofs.lemmas.List.{length_push}
use Rattle.std.proofs.lemmas.Slice.Zip.{zip_turn, zip_end}
use Rattle.blocks.proofs.Same.{difference, difference_more, same_by}
use Rattle.blocks.proofs.bytes.equal.Goals as goal

pub loop-x-init : goal.loop-x-init
unfolding difference
loop-x-init c = refl

pub loop-x-preserved : goal.loop-x-preserved
loop-x-preserved c =
    let a = c.args.a.now in
    let b = c.args.b.now in
    let done = c.loop-x.yielded in
    let pair : Bor ℕ × Bor ℕ = (c.in-Some.x, c.in-Some.y) in
    let t = zip_turn a b done c.into_iter-x-iterator.result c.loop-x.x-iterator c.next.new.self c.next.result (search rules) (search rules) c.loop-x.yielded_by pair c.in-Some.is c.next.ensures.steps in
    ap₂ bit_or c.loop-x.invariant (ap₂ bit_xor (t.2 0) (t.3 0)) ∙ sym (difference_more a b (length done)) ∙ ap (difference a b) (sym (length_push done pair))

pub returns : goal.returns
returns c =
    let a = c.args.a.now in
    let b = c.args.b.now in
    let done = c.loop-x.yielded in
    let n = zip_end a b done c.into_iter-x-iterator.result c.loop-x.x-iterator c.next.new.self c.next.result (search rules) (search rules) c.loop-x.yielded_by c.in-None.is c.next.ensures.steps in
    ap (λ (d : ℕ). eqb d 0) (c.loop-x.invariant ∙ ap (difference a b) (omega (arith, n)))
    ∙ same_by (length a) a b refl (sym c.requires)
