-- The words and the rounds of a block.
use Rattle.std.proofs.Common.{drop, ap, ◌∙◌}
use Rattle.fips180.specs.declared.Hash.{Hash}
use Rattle.fips180.specs.Sha1.{word, parse, sums, compress}
use Rattle.fips180.proofs.Block.{block-done}
use Rattle.fips180.proofs.compress.block.Goals as goal

-- each place by the value that was made there
pub returns : goal.returns
unfolding compress parse
returns c =
    let a = c.args in
    c.sum.ensures
    ∙ ap (λ (x : Hash). sums x a.h)
    (block-done (word (drop a.at a.s.now)) _ _ _ _ _ _ _ _ _ _ _ _ _ _ _ _ _ _ _ _ a.h _ _ _ _ _ _ _ _ _ _ _ _ _ _ _ _ _ _ _ _
    c.four_at-w0.ensures
    c.four_at-w1.ensures
    c.four_at-w2.ensures
    c.four_at-w3.ensures
    c.next_four-w4.ensures
    c.next_four-w5.ensures
    c.next_four-w6.ensures
    c.next_four-w7.ensures
    c.next_four-w8.ensures
    c.next_four-w9.ensures
    c.next_four-w10.ensures
    c.next_four-w11.ensures
    c.next_four-w12.ensures
    c.next_four-w13.ensures
    c.next_four-w14.ensures
    c.next_four-w15.ensures
    c.next_four-w16.ensures
    c.next_four-w17.ensures
    c.next_four-w18.ensures
    c.next_four-w19.ensures
    c.four_rounds-s1.ensures
    c.four_rounds-s2.ensures
    c.four_rounds-s3.ensures
    c.four_rounds-s4.ensures
    c.four_rounds-s5.ensures
    c.four_rounds-s6.ensures
    c.four_rounds-s7.ensures
    c.four_rounds-s8.ensures
    c.four_rounds-s9.ensures
    c.four_rounds-s10.ensures
    c.four_rounds-s11.ensures
    c.four_rounds-s12.ensures
    c.four_rounds-s13.ensures
    c.four_rounds-s14.ensures
    c.four_rounds-s15.ensures
    c.four_rounds-s16.ensures
    c.four_rounds-s17.ensures
    c.four_rounds-s18.ensures
    c.four_rounds-s19.ensures
    c.four_rounds-s20.ensures)
