-- AES, by the length of its key (FIPS 197, 5, Table 3): a key of nk words has nk + 6 rounds. So a key of 16 bytes has 4 words and 10 rounds,
-- AES-128, and one of 32 bytes 8 words and 14 rounds, AES-256. Document 01 and ticket P8: the first half is the key whitening and the first
-- half of the rounds, 5 or 7, and what it yields is the middletext; the second half is the rounds after them. Each takes the key, then the
-- block.
use Rattle.std.specs.Prelude.{◌≡◌, Bool, not, ◌||◌, List, ℕ, ◌+◌, ◌/◌, eqb, length}
use Rattle.blocks.specs.Bytes.{Bytes}
use Rattle.fips197.specs.KeyExpansion.{round_keys}
use Rattle.fips197.specs.Cipher as C

-- the lengths of a key that are taken here: 16 bytes or 32
pub data KeyLength (key : List ℕ) : Type 0 where
  short : length key ≡ 16 → KeyLength key
  long : length key ≡ 32 → KeyLength key

-- whether it is any other
unfoldable pub not_key : List ℕ → Bool
not_key key = not (eqb (length key) 16 || eqb (length key) 32)

-- 16 or 32 bytes
pub record Key (key : List ℕ) : Type 0 where
  pub size : KeyLength key
  pub bytes : Bytes key

-- the number of its words, and that of the rounds
abbrev pub nk_of : List ℕ → ℕ
nk_of key = length key / 4

abbrev pub nr_of : List ℕ → ℕ
nr_of key = nk_of key + 6

unfoldable pub keys : List ℕ → List (List ℕ)
keys key = round_keys (nk_of key) (nr_of key) key

unfoldable pub first_half : List ℕ → List ℕ → List ℕ
first_half key s = C.first_half (nr_of key / 2) (keys key) s

unfoldable pub second_half : List ℕ → List ℕ → List ℕ
second_half key s = C.second_half (nr_of key / 2) (nr_of key) (keys key) s

unfoldable pub inv_first_half : List ℕ → List ℕ → List ℕ
inv_first_half key s = C.inv_first_half (nr_of key / 2) (keys key) s

unfoldable pub inv_second_half : List ℕ → List ℕ → List ℕ
inv_second_half key s = C.inv_second_half (nr_of key / 2) (nr_of key) (keys key) s

unfoldable pub encrypt : List ℕ → List ℕ → List ℕ
encrypt key s = C.cipher (nr_of key) (keys key) s

unfoldable pub decrypt : List ℕ → List ℕ → List ℕ
decrypt key s = C.inv_cipher (nr_of key) (keys key) s
