-- By whether the record is beyond the limit.
use borrow.Author.Tests.{lt-ltb, le-ltb}
use mathlib.Core.Path.{refl}
use Prim.Native.Nat.{◌+◌}
use Rattle.mode.specs.Table.{limit, beyond_within}
use Rattle.record_list.specs.Onto.{unless_beyond}
use Rattle.record_list.proofs.unless_beyond.Goals as goal

pub returns-then-end-gt-LIMIT : goal.returns-then-end-gt-LIMIT
unfolding unless_beyond beyond_within
returns-then-end-gt-LIMIT c =
    let r = c.args.next in
    rw (lt-ltb limit (r.first + r.count) c.if-end-gt-LIMIT.true) refl

pub returns : goal.returns
unfolding unless_beyond beyond_within
returns c =
    let r = c.args.next in
    rw (le-ltb limit (r.first + r.count) c.if-end-gt-LIMIT.false) refl
