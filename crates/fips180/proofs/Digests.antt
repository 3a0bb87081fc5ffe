-- What holds of every digest and of the padding.
use Rattle.std.proofs.Common.{◌≡◌, ℕ, ◌+◌, ◌*◌, ◌/◌, ◌%◌, ◌<◌, List, ◌++◌, length, refl, arith, length-append}
use Rattle.blocks.specs.Bytes.{Bytes}
use Rattle.blocks.specs.Num.{low_bytes}
use Rattle.blocks.proofs.Chunks.{bytes_append}
use Rattle.blocks.proofs.Num.{bytes_low_bytes}
use Rattle.fips180.specs.declared.Hash.{Hash}
use Rattle.fips180.specs.Sha1.{zero_bytes, padding, padded, hash, initial, digest_of, sha1}
use Rattle.fips180.proofs.Blocks.{length-padding}

-- ---- a digest is 20 bytes

length_digest : (h : Hash) → length (digest_of h) ≡ 20
unfolding digest_of low_bytes
length_digest h = refl

pub length-sha1 : (text : List ℕ) → length (sha1 text) ≡ 20
unfolding sha1
length-sha1 text = length_digest (hash (length (padded text) / 64) (padded text) initial)

bytes_digest : (h : Hash) → Bytes (digest_of h)
unfolding digest_of
bytes_digest h =
    bytes_append (low_bytes 4 h.a) _ (bytes_low_bytes 4 h.a)
    (bytes_append (low_bytes 4 h.b) _ (bytes_low_bytes 4 h.b)
    (bytes_append (low_bytes 4 h.c) _ (bytes_low_bytes 4 h.c) (bytes_append (low_bytes 4 h.d) (low_bytes 4 h.e) (bytes_low_bytes 4 h.d) (bytes_low_bytes 4 h.e))))

pub bytes_sha1 : (text : List ℕ) → Bytes (sha1 text)
unfolding sha1
bytes_sha1 text = bytes_digest (hash (length (padded text) / 64) (padded text) initial)

-- ---- 5.1.1: the zero bits are the fewest k with l + 1 + k ≡ 448 modulo 512. On bytes l is 8 n, and k is 7 and 8 for each zero byte.

pub fewest_zeros : (n : ℕ) → ((n * 8 + 1 + (7 + zero_bytes n * 8)) % 512 ≡ 448) × (7 + zero_bytes n * 8 < 512)
unfolding zero_bytes
fewest_zeros n = (omega arith, omega arith)

-- a padded text is whole blocks
pub whole-blocks : (text : List ℕ) → length (padded text) % 64 ≡ 0
unfolding padded zero_bytes
whole-blocks text =
    let l : length (text ++ padding (length text)) ≡ length text + length (padding (length text)) = length-append text (padding (length text)) in
    omega (arith, l, length-padding (length text))
