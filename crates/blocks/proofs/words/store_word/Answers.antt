-- The bytes of the word.
use mathlib.Core.Path.{ap, ◌∙◌}
use mathlib.Core.List.{List, ◌++◌}
use Prim.Native.Nat.{ℕ, ◌+◌}
use lib.ListN.{take, drop}
use Rattle.blocks.proofs.BigEndian.{low_bytes_to}
use Rattle.blocks.proofs.words.store_word.Goals as goal

pub returns : goal.returns
returns c =
    let a = c.args in
    c.put_eight.ensures ∙ ap (λ (x : List ℕ). take a.at a.d.now ++ x ++ drop (a.at + 8) a.d.now) (c.to_be_bytes.ensures ∙ low_bytes_to a.w)
