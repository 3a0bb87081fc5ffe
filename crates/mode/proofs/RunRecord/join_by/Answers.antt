-- The product with the power is the jump by the right one's count.
use borrow.Author.Rules.{rules}
use Rattle.blocks.proofs.Bridge.{proper_by}
use Rattle.mode.proofs.Powers.{joined_by}
use Rattle.mode.proofs.RunRecord.join_by.Goals as goal

pub returns : goal.returns
returns c =
    let a = c.args in
    let m = c.multiply-moved in
    let x = c.bitxor-preauthenticator in
    joined_by a.self a.right a.power m.result x.result (proper_by x.result (search rules) (search rules)) c.requires m.ensures x.ensures
