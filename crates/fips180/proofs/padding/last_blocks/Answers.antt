-- The rest of the text, 80, zeros, the length.
use Rattle.std.proofs.Common.{◌≡◌, length, arith, length-set, rules}
use Rattle.fips180.proofs.Blocks.{last_made}
use Rattle.fips180.proofs.padding.last_blocks.Goals as goal

pub store_word-requires : goal.store_word-requires
store_word-requires c =
    let l : length c.rest-r.result ≡ 128 = search rules in
    simp length-set (omega (arith, l, c.requires.fits, c.requires.within))

pub returns : goal.returns
returns c = last_made c.args.text.now c.args.n c.args.end c.requires _ _ c.rest-r.ensures c.store_word.ensures
