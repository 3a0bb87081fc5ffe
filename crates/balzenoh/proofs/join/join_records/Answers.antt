use mathlib.Core.Path.{ap, ◌∙◌}
use Prim.Native.Nat.{◌+◌, ◌/◌, ◌<◌, ◌≤◌, ◌^◌}
use native.Mathlib.Omega.{arith}
use lib.ListN.{length}
use Rattle.mode.specs.Mode.{in_words}
use Rattle.mode.specs.Calls.{blank}
use Rattle.record_list.specs.Onto.{onto_of}
use Rattle.record_list.proofs.Loop.{begins, keeps, turn, ends}
use Rattle.record_bytes.specs.Encoding.{records_of}
use Rattle.record_bytes.proofs.Records.{length-records, record_is}
use Rattle.balzenoh.proofs.join.join_records.Goals as goal

pub loop-i-init : goal.loop-i-init
loop-i-init c = begins _ _ c.start-so_far.ensures

pub onto-so_far-requires : goal.onto-so_far-requires
onto-so_far-requires c =
    let l = c.loop-i in
    let h : l.i + 1 < 2 ^ 64 = omega arith in
    keeps _ l.i l.so_far l.invariant h

pub loop-i-preserved : goal.loop-i-preserved
loop-i-preserved c =
    let l = c.loop-i in
    let b = c.args.records.now in
    let t : l.i < length b / 24 = c.loop-i-test.true in
    let h : l.i < length (records_of b) = rw (length-records b) t in
    turn (records_of b) l.i l.so_far l.invariant (blank in_words) c.onto-so_far.result h
    (c.onto-so_far.ensures ∙ ap (onto_of l.so_far) (c.record_at.ensures ∙ record_is b l.i (blank in_words) t))

pub returns : goal.returns
returns c =
    let l = c.loop-i in
    let b = c.args.records.now in
    let t : length b / 24 ≤ l.i = c.loop-i-test.false in
    let h : length (records_of b) ≤ l.i = rw (length-records b) t in
    ends (records_of b) l.i l.so_far l.invariant h
