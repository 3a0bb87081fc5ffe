use mathlib.Core.Path.{◌∙◌}
use native.Mathlib.Omega.{arith}
use Rattle.aes_steps.proofs.Words.{at_word, below_60, key-some, expanded_none, expanded_more, expanded_all}
use Rattle.aes_steps.proofs.key.expand.Goals as goal

pub overflow_add-end : goal.overflow_add-end
overflow_add-end g c = record { fits = omega (arith, (key-some c.args.key.now c.requires).1) }

pub overflow_mul-end : goal.overflow_mul-end
overflow_mul-end g c = record { fits = omega (arith, (key-some c.args.key.now c.requires).1) }

pub loop-i-init : goal.loop-i-init
loop-i-init g c = (omega arith, omega arith, c.first_words-w.ensures ∙ expanded_none c.args.key.now c.requires)

pub overflow_sub-i : goal.overflow_sub-i
overflow_sub-i g c = omega (arith, (key-some c.args.key.now c.requires).0, c.loop-i.invariant.0)

pub word_at-t-requires : goal.word_at-t-requires
word_at-t-requires g c = omega (arith, below_60 _ _ (at_word c.args.key.now c.loop-i.i c.requires c.loop-i.invariant.0 c.loop-i-test.true))

pub temp_word-u-requires : goal.temp_word-u-requires
temp_word-u-requires g c = at_word c.args.key.now c.loop-i.i c.requires c.loop-i.invariant.0 c.loop-i-test.true

pub next_word-requires : goal.next_word-requires
next_word-requires g c =
    record {
      nk_le_i = c.loop-i.invariant.0;
      i_bound = below_60 _ _ (at_word c.args.key.now c.loop-i.i c.requires c.loop-i.invariant.0 c.loop-i-test.true);
    }

pub loop-i-preserved : goal.loop-i-preserved
loop-i-preserved g c =
    let key = c.args.key.now in (
      omega arith,
      omega arith,
      expanded_more key c.requires c.loop-i.i c.loop-i.invariant.0 c.loop-i.w _ _ c.next_word.new.w (key-some key c.requires).0 c.loop-i.invariant.2 c.word_at-t.ensures
          c.temp_word-u.ensures c.next_word.ensures,
    )

pub returns : goal.returns
returns g c = expanded_all c.args.key.now c.requires c.loop-i.w c.loop-i.i (omega (arith, c.loop-i-test.false)) c.loop-i.invariant.2
