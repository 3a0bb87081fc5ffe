-- Row by row.
use mathlib.Core.Path.{sym, ◌∙◌}
use native.Mathlib.Omega.{arith}
use Rattle.aes_blocks.proofs.Outcome.{refuses_1, refuses_3, refuses_5, refuses-none}
use Rattle.aes_blocks.proofs.refusal.check.Goals as goal

pub returns-then-not_key : goal.returns-then-not_key
returns-then-not_key c = sym (refuses_1 _ _ _ (sym c.not_key.ensures ∙ c.if-not_key.true))

pub returns-then-text-ne0 : goal.returns-then-text-ne0
returns-then-text-ne0 c = sym (refuses_3 _ _ _ (sym c.not_key.ensures ∙ c.if-not_key.false) (λ e. c.if-text-ne0.true (omega (arith, e))))

pub returns-then-room-text : goal.returns-then-room-text
returns-then-room-text c = sym (refuses_5 _ _ _ (sym c.not_key.ensures ∙ c.if-not_key.false) c.if-text-ne0.false c.if-room-text.true)

pub returns : goal.returns
returns c = sym (refuses-none _ _ _ (sym c.not_key.ensures ∙ c.if-not_key.false) c.if-text-ne0.false c.if-room-text.false)
