-- By what the steps ensure.
use mathlib.Core.Path.{ap, ◌∙◌}
use mathlib.Core.List.{List, ◌++◌}
use Prim.Native.Nat.{ℕ, ◌+◌, ◌*◌}
use lib.ListN.{take, drop}
use Rattle.blocks.specs.Bytes.{xor_bytes}
use Rattle.aes_steps.proofs.schedule.next_word.Goals as goal

pub returns : goal.returns
returns c =
    let a = c.args in
    c.put_word.ensures ∙ ap (λ (z : List ℕ). take (a.i * 4) a.w.now ++ z ++ drop (a.i * 4 + 4) a.w.now) (c.xor_word-x.ensures ∙ ap (λ (v : List ℕ). xor_bytes v a.temp) c.word_at-v.ensures)
