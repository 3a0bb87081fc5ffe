-- By the rows of the table: each return under what was tested on the way to it.
use Prim.Native.Nat.{◌+◌, ◌≤◌, ◌<◌}
use native.Mathlib.Omega.{arith}
use mathlib.Core.Path.{◌≡◌, sym}
use Rattle.mode.specs.Table.{limit}
use Rattle.mode.specs.Refusals.{BeyondLimit, NotNeighbours}
use Rattle.mode.proofs.Answers.{refuses_by, lets_pass}
use Rattle.mode.proofs.Join.{join_left_beyond, join_right_beyond, join_apart, join_adjoins}
use Rattle.mode.proofs.RunRecord.join_refusal.Goals as goal

pub returns-then-left_end-gt-LIMIT : goal.returns-then-left_end-gt-LIMIT
returns-then-left_end-gt-LIMIT c =
    let a = c.args in
    let h : limit < a.self.first + a.self.count = omega arith in
    refuses_by BeyondLimit (sym (join_left_beyond a.self a.right h))

pub returns-then-right_end-gt-LIMIT : goal.returns-then-right_end-gt-LIMIT
returns-then-right_end-gt-LIMIT c =
    let a = c.args in
    let h : a.self.first + a.self.count ≤ limit = omega arith in
    let k : limit < a.right.first + a.right.count = omega arith in
    refuses_by BeyondLimit (sym (join_right_beyond a.self a.right h k))

pub returns-then-left_end-right : goal.returns-then-left_end-right
returns-then-left_end-right c =
    let a = c.args in
    let h : a.self.first + a.self.count ≤ limit = omega arith in
    let k : a.right.first + a.right.count ≤ limit = omega arith in
    refuses_by NotNeighbours (sym (join_apart a.self a.right h k (λ e. omega arith)))

pub returns : goal.returns
returns c =
    let a = c.args in
    let h : a.self.first + a.self.count ≤ limit = omega arith in
    let k : a.right.first + a.right.count ≤ limit = omega arith in
    let e : a.self.first + a.self.count ≡ a.right.first = omega arith in
    lets_pass (sym (join_adjoins a.self a.right h k e))
