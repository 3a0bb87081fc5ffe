-- Field by field.
use borrow.Author.Rules.{rules}
use Rattle.blocks.proofs.Bridge.{proper_by, words_of_lem}
use Rattle.record_bytes.specs.Encoding.{decoded}
use Rattle.record_bytes.proofs.Encoding.{number_read}
use Rattle.record_bytes.proofs.decode.Goals as goal

pub returns : goal.returns
unfolding decoded
returns c =
    let w = c.load-preauthenticator.result in
    let p = words_of_lem w _ (proper_by w (search rules) (search rules)) c.load-preauthenticator.ensures in
    let f = number_read _ _ _ _ _ c.from_be_bytes-first.ensures in
    let n = number_read _ _ _ _ _ c.from_be_bytes-count.ensures in
    λ i. record { first = f i; count = n i; preauthenticator = p i }
