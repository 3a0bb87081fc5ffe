-- Refused, or encoded in front of zeros.
use mathlib.Core.Path.{◌≡◌, sym, ap, ◌∙◌}
use mathlib.Core.List.{List, ◌++◌}
use Prim.Native.Nat.{ℕ, ◌-◌}
use native.Mathlib.Omega.{arith}
use lib.ListN.{length, drop}
use Rattle.std.specs.Prelude.{Result}
use Rattle.mode.specs.declared.RunRecord.{RunRecord}
use Rattle.mode.specs.declared.refusal.Refusal.{Refusal}
use Rattle.blocks.specs.Bytes.{zeros}
use Rattle.mode.specs.Mode.{in_words}
use Rattle.mode.specs.Calls.{blank}
use Rattle.std.specs.Result.{result_unwrap_or}
use Rattle.blocks.proofs.Zeros.{drop-zeros}
use Rattle.record_bytes.specs.Encoding.{encoded}
use Rattle.record_bytes.proofs.Encoding.{length-encoded}
use Rattle.balzenoh.proofs.Lent.{room_there, lent_refused, lent_given}
use Rattle.balzenoh.proofs.record.give.Goals as goal

pub encode-requires : goal.encode-requires
encode-requires c = let a = c.args in omega (arith, c.clear.auto.d, (room_there (length a.out.now) 24 a.answer _ c.in-Ok.ensures).0)

pub returns-in-Ok : goal.returns-in-Ok
returns-in-Ok c =
    let a = c.args in
    let room = length a.out.now in
    let run = c.in-Ok.run' in
    let is : encoded run ≡ encoded (result_unwrap_or a.answer (blank in_words)) = sym (ap (λ (x : Result RunRecord Refusal). encoded (result_unwrap_or x (blank in_words))) (room_there room 24 a.answer _ c.in-Ok.ensures).1) in
    lent_given room 24 a.answer run (encoded (result_unwrap_or a.answer (blank in_words))) c.encode.new.out c.in-Ok.ensures (length-encoded (result_unwrap_or a.answer (blank in_words)))
    (c.encode.ensures ∙ ap (λ (z : List ℕ). encoded run ++ drop 24 z) c.clear.ensures ∙ ap (λ (z : List ℕ). encoded run ++ z) (drop-zeros 24 room) ∙ ap (λ (x : List ℕ). x ++ zeros (room - 24)) is)

pub returns-in-Err : goal.returns-in-Err
returns-in-Err c =
    let a = c.args in
    rw c.number.ensures (lent_refused (length a.out.now) 24 a.answer c.in-Err.refusal (encoded (result_unwrap_or a.answer (blank in_words))) c.clear.new.d c.in-Err.ensures c.clear.ensures)
