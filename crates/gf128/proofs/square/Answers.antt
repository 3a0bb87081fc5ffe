-- The bits moved apart, and the upper half of them brought down.
use borrow.Author.Rules.{rules}
use Rattle.blocks.specs.declared.words.Words.{Words}
use Rattle.blocks.proofs.Bridge.{proper_by}
use Rattle.gf128.proofs.Powers.{squared}
use Rattle.gf128.proofs.square.Goals as goal

pub returns : goal.returns
returns c =
    let w = c.args.b in
    let h : Words = record { high = c.spread.result; low = c.spread-2.result } in
    let l : Words = record { high = c.spread-3.result; low = c.spread-4.result } in
    squared w h l c.times_x64.result c.times_x64-2.result c.bitxor.result
    (proper_by w (search rules) (search rules)) (proper_by h (search rules) (search rules)) (proper_by l (search rules) (search rules))
    c.spread.ensures c.spread-2.ensures
    c.spread-3.ensures c.spread-4.ensures
    c.times_x64.ensures c.times_x64-2.ensures c.bitxor.ensures
