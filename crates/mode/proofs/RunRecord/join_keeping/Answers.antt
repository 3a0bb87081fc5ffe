-- By the refusal: with none, the power that is kept or worked out is the variable to the right one's count.
use mathlib.Core.Path.{sym}
use Prim.Native.Nat.{◌+◌, ◌≤◌}
use native.Mathlib.Omega.{arith}
use Rattle.mode.specs.Mode.{in_words}
use Rattle.mode.specs.Table.{limit, first_row}
use Rattle.mode.specs.Calls.{join_two_rows}
use Rattle.mode.proofs.Answers.{has_passed}
use Rattle.mode.proofs.Join.{join_counts}
use Rattle.mode.proofs.Powers.{keeping_refused, keeping_given}
use Rattle.mode.proofs.RunRecord.join_keeping.Goals as goal

pub returns-in-Err : goal.returns-in-Err
returns-in-Err c = let a = c.args in keeping_refused a.self a.right a.last c.in-Err.ensures

pub join_by-run-requires : goal.join_by-run-requires
join_by-run-requires c =
    let a = c.args in
    let z = has_passed (first_row (join_two_rows in_words a.self a.right)) c.in_default.ensures in
    let h : a.self.count + a.right.count ≤ limit = join_counts a.self a.right (sym z) in
    record {
      counts = omega arith;
      right = c.for_count.ensures.power;
    }

pub returns : goal.returns
returns c =
    let a = c.args in
    keeping_given a.self a.right a.last c.for_count.result.1 c.join_by-run.result c.in_default.ensures c.join_by-run.ensures c.for_count.ensures.last
