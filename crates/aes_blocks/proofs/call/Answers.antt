-- Cleared; then refused, or each block done under the key's schedule.
use mathlib.Core.Path.{sym, ap, ◌∙◌}
use lib.ListN.{length}
use Rattle.aes_blocks.specs.EachBlock.{refusal}
use Rattle.aes_blocks.specs.Answer.{answered}
use Rattle.aes_blocks.proofs.Outcome.{number-some, passed, refused_output, given_output}
use Rattle.aes_blocks.proofs.call.Goals as goal

pub returns-in_err-check-clause-output : goal.returns-in_err-check-clause-output
returns-in_err-check-clause-output g c =
    let r = sym (ap answered c.in_err-check.was) ∙ c.check.ensures ∙ ap (refusal c.args.key.now c.args.text.now) c.clear.auto.d in
    refused_output _ _ _ _ _ c.clear.ensures (λ z. number-some _ (r ∙ z))

pub expand-keys-requires : goal.expand-keys-requires
expand-keys-requires g c = (passed _ _ _ (sym c.check.ensures ∙ ap answered c.in_ok-check.was)).key-long

pub each_block-requires-clause-text_in_bounds : goal.each_block-requires-clause-text_in_bounds
each_block-requires-clause-text_in_bounds g c = (passed _ _ _ (sym c.check.ensures ∙ ap answered c.in_ok-check.was)).fits

pub returns-clause-output : goal.returns-clause-output
returns-clause-output g c =
    let a = c.args in
    let z = sym (c.check.ensures ∙ ap (refusal a.key.now a.text.now) c.clear.auto.d) ∙ ap answered c.in_ok-check.was in
    given_output g.D.Direction.cipher a.key.now a.text.now (length a.out.now) _ _ _ c.expand-keys.ensures.of c.clear.ensures z c.each_block.ensures
