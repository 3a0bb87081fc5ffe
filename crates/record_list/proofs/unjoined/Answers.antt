-- By the refusal so far.
use mathlib.Core.Path.{◌≡◌, refl, sym, ap, ◌∙◌}
use Rattle.std.specs.Prelude.{Err}
use Rattle.mode.specs.declared.RunRecord.{RunRecord}
use Rattle.mode.specs.declared.refusal.Refusal.{Refusal}
use Rattle.mode.specs.declared.refusal.Refusal.TheVariants.{KeyLength, IvLength, Length, BeyondLimit, OutputTooShort, TagDiffers, Padding, NotNeighbours, NotWhole, ZeroMask, RecordLength}
use Rattle.record_list.specs.Onto.{unjoined}
use Rattle.record_list.proofs.unjoined.Goals as goal

pub returns-in-NotNeighbours : goal.returns-in-NotNeighbours
unfolding unjoined
returns-in-NotNeighbours c = c.unless_beyond.ensures ∙ sym (ap (λ (r : Refusal). unjoined r c.args.next) c.in-NotNeighbours.is)

pub returns-in-NotWhole : goal.returns-in-NotWhole
unfolding unjoined
returns-in-NotWhole c = c.unless_beyond-in-NotWhole.ensures ∙ sym (ap (λ (r : Refusal). unjoined r c.args.next) c.in-NotWhole.is)

stands : (r : Refusal) (next : RunRecord) → (r ≡ NotNeighbours → ⊥) → (r ≡ NotWhole → ⊥) → Err r ≡ unjoined r next
unfolding unjoined
stands KeyLength next h k = refl
stands IvLength next h k = refl
stands Length next h k = refl
stands BeyondLimit next h k = refl
stands OutputTooShort next h k = refl
stands TagDiffers next h k = refl
stands Padding next h k = refl
stands NotNeighbours next h k = absurd (h refl)
stands NotWhole next h k = absurd (k refl)
stands ZeroMask next h k = refl
stands RecordLength next h k = refl

pub returns-in_default : goal.returns-in_default
returns-in_default c = stands c.args.refusal c.args.next c.in_default.not-NotNeighbours c.in_default.not-NotWhole
