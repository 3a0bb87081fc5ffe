-- The run, its ciphertext kept or not, and its record lent.
use mathlib.Core.Path.{◌≡◌, refl, sym, ap, ap₂, ◌∙◌}
use mathlib.Core.Logic.{inl, inr}
use mathlib.Core.Bool.{cond, not}
use lib.Dec.{eqb}
use mathlib.Core.List.{List}
use Prim.Native.Nat.{ℕ}
use lib.ListN.{length}
use Rattle.std.specs.Prelude.{Result}
use Rattle.blocks.specs.Bytes.{zeros}
use Rattle.mode.specs.declared.RunRecord.{RunRecord}
use Rattle.mode.specs.declared.refusal.Refusal.{Refusal}
use Rattle.mode.specs.Mode.{in_words}
use Rattle.mode.specs.Aes.{aes}
use Rattle.mode.specs.Table.{Answer, refused, given, too_short}
use Rattle.mode.specs.Refusals.{answered}
use Rattle.mode.specs.Calls.{Outcome, number, seal_run, sealed_run_of, record_of_answer}
use Rattle.mode.specs.Demands.{AnsweredInto}
use Rattle.mode.proofs.Demands.{demand1}
use Rattle.calls.specs.Layout.{kind_of}
use Rattle.balzenoh.specs.Exports.{lent_record, length_in, run_in, seal_run_bytes}
use Rattle.balzenoh.proofs.run.balzenoh_seal_run.Goals as goal

-- the record's part of the answer
run_of : (o : Outcome RunRecord) → run_in (sealed_run_of o) ≡ record_of_answer o.answer
unfolding answered
run_of o = by o.answer
  where
    by : (a : Answer RunRecord) → run_in (answered (λ r. record { length = o.reported; run = r }) a) ≡ record_of_answer a
    by (refused n) = refl
    by (given r) = refl

-- the number of its bytes
length_of : (o : Outcome RunRecord) (room : ℕ) → AnsweredInto o room → length_in (sealed_run_of o) ≡ o.reported
unfolding answered
length_of o room (inl (x, bytes, g)) = ap (λ (a : Answer RunRecord). length_in (answered (λ r. record { length = o.reported; run = r }) a)) g.answers
length_of o room (inr (n, (t, r))) = ap (λ (a : Answer RunRecord). length_in (answered (λ r. record { length = o.reported; run = r }) a)) r.answers ∙ sym r.reports

pub returns : goal.returns
unfolding seal_run_bytes
returns c =
    let a = c.args in
    let size = length a.out.now in
    let room = length a.run.now in
    let x = c.give.ensures in
    let y = c.keep.ensures in
    let z = c.seal_run-answer.ensures in
    let o = seal_run in_words aes a.key.now a.iv.now a.first (kind_of (not (eqb a.last 0))) a.bytes.now size in
    let r : c.parts-written.result.1 ≡ record_of_answer o.answer = c.parts-written.ensures.record_part ∙ ap run_in z.answer ∙ run_of o in
    let n : c.parts-written.result.0 ≡ o.reported = c.parts-written.ensures.written ∙ ap length_in z.answer ∙ length_of o size (demand1.of_seal_run a.key.now a.iv.now a.first (kind_of (not (eqb a.last 0))) a.bytes.now size) in
    record {
      answer = x.answer ∙ ap (λ (q : Result RunRecord Refusal). number (lent_record q room).answer) r;
      written = y.written ∙ ap (λ (k : ℕ). cond (too_short room 24) 0 k) n;
      output = y.output ∙ ap₂ (λ (k : ℕ) (w : List ℕ). cond (too_short room 24) (zeros k) w) c.seal_run-answer.auto.out z.output;
      record-output = x.output ∙ ap (λ (q : Result RunRecord Refusal). (lent_record q room).output) r;
    }
