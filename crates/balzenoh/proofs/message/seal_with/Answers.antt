-- The call, its number and its length.
use mathlib.Core.Path.{ap, ◌∙◌}
use lib.ListN.{length}
use Prim.Native.Nat.{ℕ}
use Rattle.std.specs.Prelude.{Result}
use Rattle.std.specs.Result.{result_unwrap_or}
use Rattle.mode.specs.declared.refusal.Refusal.{Refusal}
use Rattle.mode.specs.Mode.{finish_named}
use Rattle.mode.specs.Aes.{aes}
use Rattle.mode.specs.Refusals.{number_in}
use Rattle.mode.specs.Calls.{seal}
use Rattle.mode.proofs.Demands.{demand1}
use Rattle.mode.proofs.Numbers.{written_number, written_length}
use Rattle.balzenoh.proofs.message.seal_with.Goals as goal

pub returns : goal.returns
returns c =
    let a = c.args in
    let room = length a.out.now in
    let o = seal (finish_named a.finish) aes a.key.now a.iv.now a.message.now room in
    let h = demand1.of_seal (finish_named a.finish) a.key.now a.iv.now a.message.now room in
    let x = c.seal.ensures in
    record {
      answer = c.report.ensures.number ∙ ap number_in x.answer ∙ written_number o room h;
      written = c.report.ensures.reported ∙ ap (λ (r : Result ℕ Refusal). result_unwrap_or r 0) x.answer ∙ written_length o room h;
      output = x.output;
    }
