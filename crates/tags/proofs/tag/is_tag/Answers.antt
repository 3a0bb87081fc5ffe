-- As much of it as is given.
use borrow.Author.Rules.{rules}
use mathlib.Core.Path.{◌≡◌, sym}
use mathlib.Core.List.{List}
use Prim.Native.Nat.{ℕ, ◌≤◌}
use native.Mathlib.Omega.{arith}
use lib.ListN.{length, take}
use lib.Seq.{length-take-le}
use Rattle.tags.proofs.tag.is_tag.Goals as goal

-- the bytes of a tag that is held, as many as are given
taken : (tag given : List ℕ) → length tag ≡ 20 → length given ≤ 20 → length (take (length given) tag) ≡ length given
taken tag given l h = length-take-le (length given) tag (omega (arith, l, h))

pub slice_bounds-equal-end : goal.slice_bounds-equal-end
slice_bounds-equal-end c =
    let l : length c.args.tag ≡ 20 = search rules in
    sym (taken c.args.tag c.args.given.now l c.requires)

pub equal-requires : goal.equal-requires
equal-requires c =
    let l : length c.args.tag ≡ 20 = search rules in
    taken c.args.tag c.args.given.now l c.requires
