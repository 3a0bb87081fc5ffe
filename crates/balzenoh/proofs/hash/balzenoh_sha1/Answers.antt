-- The call, its number alone.
use mathlib.Core.Path.{ap, ◌∙◌}
use lib.ListN.{length}
use Rattle.mode.specs.Refusals.{number_in}
use Rattle.mode.specs.Calls.{sha1_text}
use Rattle.mode.proofs.Demands.{demand1}
use Rattle.mode.proofs.Numbers.{written_number}
use Rattle.balzenoh.proofs.hash.balzenoh_sha1.Goals as goal

pub returns : goal.returns
returns c =
    let text = c.args.text.now in
    let room = length c.args.out.now in
    record {
      answer = c.number.ensures ∙ ap number_in c.sha1.ensures.answer ∙ written_number (sha1_text text room) room (demand1.of_sha1 text room);
      output = c.sha1.ensures.output;
    }
