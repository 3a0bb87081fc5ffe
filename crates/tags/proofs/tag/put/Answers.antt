-- As many bytes as the finish makes.
use borrow.Author.Rules.{rules}
use mathlib.Core.Path.{◌≡◌, sym, ap, ◌∙◌}
use mathlib.Core.List.{List, ◌++◌}
use Prim.Native.Nat.{ℕ, ◌+◌, ◌≤◌}
use native.Mathlib.Omega.{arith}
use lib.ListN.{length, take, drop}
use lib.Seq.{length-take-le}
use Rattle.mode.specs.declared.finish.Finish.{Finish}
use Rattle.mode.specs.Mode.{finish_named}
use Rattle.mode.proofs.Finishes.{tag_within}
use Rattle.tags.proofs.tag.put.Goals as goal

-- as many bytes of a tag that is held as its finish makes
taken : (finish : Finish) (tag : List ℕ) (size : ℕ) → length tag ≡ 20 → size ≡ (finish_named finish).tag_length → (size ≤ length tag) × (length (take size tag) ≡ size)
taken finish tag size l e =
    let w : size ≤ length tag = omega (arith, l, e, tag_within finish) in
    (w, length-take-le size tag w)

pub slice_bounds-tag-end : goal.slice_bounds-tag-end
slice_bounds-tag-end c =
    let l : length c.args.tag ≡ 20 = search rules in
    let t = taken c.args.finish c.args.tag _ l c.tag_length-size.ensures in
    t.0

pub slice_bounds-put-end : goal.slice_bounds-put-end
slice_bounds-put-end c =
    let l : length c.args.tag ≡ 20 = search rules in
    let t = taken c.args.finish c.args.tag _ l c.tag_length-size.ensures in
    sym t.1

pub put-requires : goal.put-requires
put-requires c =
    let l : length c.args.tag ≡ 20 = search rules in
    let t = taken c.args.finish c.args.tag _ l c.tag_length-size.ensures in
    omega (arith, t.1, c.tag_length-size.ensures, c.requires)

pub returns : goal.returns
returns c =
    let a = c.args in
    let size = c.tag_length-size.result in
    let out = a.out.now in
    let l : length c.args.tag ≡ 20 = search rules in
    let t = taken c.args.finish c.args.tag _ l c.tag_length-size.ensures in
    c.put.ensures
    ∙ ap (λ (n : ℕ). take a.at out ++ take size a.tag ++ drop (a.at + n) out) t.1
    ∙ ap (λ (n : ℕ). take a.at out ++ take n a.tag ++ drop (a.at + n) out) c.tag_length-size.ensures
