-- Too short, too long, or by the multiple of 16.
use mathlib.Core.Path.{◌≡◌, sym, ap, ◌∙◌}
use mathlib.Core.Bool.{not}
use mathlib.Core.List.{List}
use Prim.Native.Nat.{ℕ, ◌+◌, ◌-◌, ◌%◌, ◌≤◌}
use native.Mathlib.Omega.{arith}
use lib.Dec.{eqb}
use lib.ListN.{length}
use Rattle.mode.specs.declared.finish.Finish.{Finish}
use Rattle.mode.specs.Mode.{finish_named, overhead}
use Rattle.mode.proofs.Finishes.{tag_within}
use Rattle.mode.specs.Table.{limit}
use Rattle.mode.proofs.Rows.{sealed_short, sealed_long, sealed_rest}
use Rattle.opening.proofs.rows.not_sealed.Goals as goal

pub overflow_add-beside : goal.overflow_add-beside
overflow_add-beside c = record { fits = omega (arith, c.overhead-beside.ensures, tag_within c.args.finish) }

-- the shortest is passed
least : (finish : Finish) (sealed : List ℕ) (beside : ℕ) → beside ≡ overhead (finish_named finish) → 16 + beside ≤ length sealed → 16 + overhead (finish_named finish) ≤ length sealed
least finish sealed beside e h = omega (arith, e, h)

pub returns-then-sealed-beside : goal.returns-then-sealed-beside
returns-then-sealed-beside c =
    let a = c.args in
    sym (sealed_short (finish_named a.finish) a.sealed.now (omega (arith, c.overhead-beside.ensures, c.if-sealed-beside.true)))

pub returns-then-size-gt-LONGEST_CIPHERTEXT : goal.returns-then-size-gt-LONGEST_CIPHERTEXT
returns-then-size-gt-LONGEST_CIPHERTEXT c =
    let a = c.args in
    sym (sealed_long (finish_named a.finish) limit a.sealed.now (omega (arith, least c.args.finish c.args.sealed.now _ c.overhead-beside.ensures (omega (arith, c.if-sealed-beside.false)), c.overhead-beside.ensures, c.if-size-gt-LONGEST_CIPHERTEXT.true)))

pub returns : goal.returns
returns c =
    let a = c.args in
    ap (λ (n : ℕ). not (eqb ((length a.sealed.now - n) % 16) 0)) c.overhead-beside.ensures
    ∙ sym (sealed_rest (finish_named a.finish) a.sealed.now (least c.args.finish c.args.sealed.now _ c.overhead-beside.ensures (omega (arith, c.if-sealed-beside.false))) (omega (arith, least c.args.finish c.args.sealed.now _ c.overhead-beside.ensures (omega (arith, c.if-sealed-beside.false)), c.overhead-beside.ensures, c.if-size-gt-LONGEST_CIPHERTEXT.false)))
