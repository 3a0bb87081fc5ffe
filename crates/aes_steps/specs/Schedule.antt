-- THE KEY SCHEDULE, as every engine makes and takes it: a record of 241 bytes. In front stand its round keys, up to fifteen of them, then zeros;
-- the last byte is the number of rounds. So what a cipher does by it is said for any number of rounds that it has room for.
use Rattle.std.specs.Prelude.{List, [], ◌∷◌, ◌++◌, ◌≡◌, ℕ, ◌+◌, ◌-◌, ◌*◌, ◌/◌, ◌<◌, length, get_or}
use Rattle.blocks.specs.Bytes.{zeros, first_blocks}
use Rattle.fips197.specs.KeyExpansion.{key_expansion}
use Rattle.fips197.specs.Cipher as C
use Rattle.fips197.specs.Aes.{nk_of, nr_of}

-- the number of rounds
abbrev pub rounds_in : List ℕ → ℕ
rounds_in w = get_or w 240 0

-- the round keys: one more than the rounds
abbrev pub round_keys_in : List ℕ → List (List ℕ)
round_keys_in w = first_blocks (rounds_in w + 1) w

-- what an engine asks of a schedule: one round or more, and round keys that fit
pub record Schedule (w : List ℕ) : Type 0 where
  pub size : length w ≡ 241
  pub some : 0 < rounds_in w
  pub fits : rounds_in w < 15

-- that of a key (FIPS 197, 5.2)
unfoldable pub schedule_of : List ℕ → List ℕ
schedule_of key = key_expansion (nk_of key) (nr_of key) key ++ (zeros (240 - 16 * (nr_of key + 1)) ++ (nr_of key ∷ []))

-- ---- the cipher by a schedule, and its halves, of half the rounds each (FIPS 197, 5.1 and 5.3; document 01)

unfoldable pub first_half_by : List ℕ → List ℕ → List ℕ
first_half_by w s = C.first_half (rounds_in w / 2) (round_keys_in w) s

unfoldable pub second_half_by : List ℕ → List ℕ → List ℕ
second_half_by w s = C.second_half (rounds_in w / 2) (rounds_in w) (round_keys_in w) s

unfoldable pub inv_first_half_by : List ℕ → List ℕ → List ℕ
inv_first_half_by w s = C.inv_first_half (rounds_in w / 2) (round_keys_in w) s

unfoldable pub inv_second_half_by : List ℕ → List ℕ → List ℕ
inv_second_half_by w s = C.inv_second_half (rounds_in w / 2) (rounds_in w) (round_keys_in w) s

unfoldable pub encrypt_by : List ℕ → List ℕ → List ℕ
encrypt_by w s = C.cipher (rounds_in w) (round_keys_in w) s

unfoldable pub decrypt_by : List ℕ → List ℕ → List ℕ
decrypt_by w s = C.inv_cipher (rounds_in w) (round_keys_in w) s
