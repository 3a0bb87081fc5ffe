-- The loop over the list's records, each read from its bytes.
use Rattle.record_list.proofs.Loop.{Going}
use Rattle.record_bytes.specs.Encoding.{records_of}
use Rattle.balzenoh.proofs.join.join_records.Given as goal

abbrev pub invariant-loop-i : goal.invariant-loop-i
invariant-loop-i l = Going (records_of l.records) l.i l.so_far
