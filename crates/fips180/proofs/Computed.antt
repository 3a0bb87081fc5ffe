-- For what is shown by computing a digest.
use Rattle.blocks.specs.Num.{num, low_bytes}
use Rattle.fips180.specs.Sha1.{complement, rotl, ch, parity, maj, f, constant, zero_bytes, padding, padded, word, parse, initial, next_word, schedule, round, rounds, sums, compress, hash, digest_of, sha1}

-- to unfold this is to unfold all that a digest computes by
unfoldable pub computed : Unit {0}
unfolding num low_bytes complement rotl ch parity maj f constant zero_bytes padding padded word parse initial next_word schedule round rounds sums compress hash digest_of sha1
computed = tt
