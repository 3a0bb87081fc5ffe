use borrow.Author.Rules.{rules}
use mathlib.Core.Path.{◌≡◌, sym, ap, ◌∙◌}
use Prim.Native.Nat.{ℕ, suc, ◌-◌}
use native.Mathlib.Omega.{arith}
use lib.ListN.{length, drop}
use Rattle.opening.proofs.Padding.{other_byte, all_zero, nothing_behind, one_more, ends_there, ends_nowhere}
use Rattle.opening.proofs.message.message_end.Goals as goal

pub loop-end-init : goal.loop-end-init
loop-end-init c = let l : length c.args.block ≡ 16 = search rules in (l, nothing_behind c.args.block l)

pub returns-then-byte : goal.returns-then-byte
returns-then-byte c = let i = c.loop-end.invariant in ends_there _ i.0 c.loop-end.end (omega arith) (omega arith) c.if-byte.true i.1

pub returns-then-byte-ne0 : goal.returns-then-byte-ne0
returns-then-byte-ne0 c =
    let i = c.loop-end.invariant in
    let end = c.loop-end.end in
    ends_nowhere _ i.0 (λ m p. other_byte _ m p (end - 1) (16 - end) (ap (λ (k : ℕ). drop k c.args.block) (let q : suc (end - 1) ≡ end = omega arith in q) ∙ i.1) c.if-byte.false c.if-byte-ne0.true)

pub loop-end-preserved : goal.loop-end-preserved
loop-end-preserved c =
    let i = c.loop-end.invariant in
    let end = c.loop-end.end in
    (i.0, one_more _ i.0 end (omega arith) (omega arith) c.if-byte-ne0.false i.1)

pub returns : goal.returns
returns c =
    let i = c.loop-end.invariant in
    let z : c.loop-end.end ≡ 0 = omega arith in
    ends_nowhere _ i.0 (λ m p. all_zero _ m p (16 - c.loop-end.end) (ap (λ (k : ℕ). drop k c.args.block) (sym z) ∙ i.1))
