-- What comes back of a call, as equations with its outcome.
use Rattle.std.specs.Prelude.{◌≡◌, List, ℕ}
use Rattle.mode.specs.Calls.{Outcome, number}
use Rattle.balzenoh.specs.Exports.{RunOutcome}

-- the number and the output
abbrev pub ReturnedAs : {A : Type 0} → Outcome A → ℕ → List ℕ → Type 0
ReturnedAs o n out = (n ≡ number o.answer) × (out ≡ o.output)

-- the number, the length and the output
abbrev pub ReportedAs : {A : Type 0} → Outcome A → ℕ → ℕ → List ℕ → Type 0
ReportedAs o n reported out = (n ≡ number o.answer) × (reported ≡ o.reported) × (out ≡ o.output)

-- of a run: the number, the length, and both outputs
abbrev pub ReportedRunAs : RunOutcome → ℕ → ℕ → List ℕ → List ℕ → Type 0
ReportedRunAs o n reported out run = (n ≡ o.refusal) × (reported ≡ o.reported) × (out ≡ o.output) × (run ≡ o.run)
