-- The numbers of the two halves.
use borrow.Author.Rules.{rules}
use Rattle.blocks.proofs.Array.{block-by}
use Rattle.blocks.proofs.Bridge.{words-by}
use Rattle.blocks.proofs.BigEndian.{num-from}
use Rattle.blocks.proofs.words.WordsFromArrayU816.from.Goals as goal

pub returns : goal.returns
returns c =
    let b = c.args.b in
    words-by b c.from_be_bytes-high.result c.from_be_bytes-low.result (block-by b (search rules) (λ i. search rules)) (num-from _ _ _ _ _ _ _ _ _ c.from_be_bytes-high.ensures) (num-from _ _ _ _ _ _ _ _ _ c.from_be_bytes-low.ensures)
