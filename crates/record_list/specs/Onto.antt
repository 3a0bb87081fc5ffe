-- A list of records, joined one after the other.
use Rattle.std.specs.Prelude.{cond, List, [], ◌∷◌, Result, Ok, Err}
use Rattle.mode.specs.declared.RunRecord.{RunRecord}
use Rattle.mode.specs.declared.power.LastPower.{LastPower}
use Rattle.mode.specs.declared.KeptAnswer.{KeptAnswer}
use Rattle.mode.specs.Table.{beyond}
use Rattle.mode.specs.declared.refusal.Refusal.{Refusal}
use Rattle.mode.specs.declared.refusal.Refusal.TheVariants.{BeyondLimit, NotNeighbours, NotWhole}
use Rattle.mode.specs.Powers.{no_power, join_keeping}

-- an answer, and the power that is kept with it
abbrev pub kept : Result RunRecord Refusal → LastPower → KeptAnswer
kept answer last = record { answer = answer; last = last }

-- before the first record: 9, the refusal of an empty list
abbrev pub started : KeptAnswer
started = kept (Err NotWhole) no_power

-- 4 where this record is beyond the limit
unfoldable pub unless_beyond : RunRecord → Result RunRecord Refusal → Result RunRecord Refusal
unless_beyond next answer = cond (beyond next.first next.count) (Err BeyondLimit) answer

-- One record more where none was given so far. 8, which stands below 4 in the table, gives way to 4 of this record. So does 9, no record yet;
-- else this record is the answer. Every other refusal stands, whatever this record is: 4, and one that joining does not give.
unfoldable pub unjoined : Refusal → RunRecord → Result RunRecord Refusal
unjoined NotNeighbours next = unless_beyond next (Err NotNeighbours)
unjoined NotWhole next = unless_beyond next (Ok next)
unjoined refusal next = Err refusal

-- One record more, by the answer so far. Where that is a record, it is joined on, with the power that is kept.
unfoldable pub onto_answer : Result RunRecord Refusal → LastPower → RunRecord → KeptAnswer
onto_answer (Ok run) last next = join_keeping run next last
onto_answer (Err refusal) last next = kept (unjoined refusal next) last

abbrev pub onto_of : KeptAnswer → RunRecord → KeptAnswer
onto_of so_far next = onto_answer so_far.answer so_far.last next

-- each record of a list in turn
unfoldable pub onto_all : KeptAnswer → List RunRecord → KeptAnswer
onto_all so_far [] = so_far
onto_all so_far (next ∷ rest) = onto_all (onto_of so_far next) rest
