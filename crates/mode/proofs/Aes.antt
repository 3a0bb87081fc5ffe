-- AES is a lawful cipher: so what is shown of any lawful cipher holds of AES. And it is FIPS 197's cipher, by the length of its key.
use mathlib.Core.Path.{subst}
use mathlib.Core.List.{List}
use Prim.Native.Nat.{ℕ, ◌+◌, ◌/◌}
use Rattle.fips197.proofs.Aes.{block-first, block_second, block_inv_first, block_inv_second, first_undone, first_redone, second_undone, second_redone, encrypt_halves, decrypt_halves, first-after}
use Rattle.fips197.specs.Aes.{nk_of, nr_of}
use Rattle.fips197.specs.Aes as Aes
use Rattle.fips197.proofs.Lengths.{length-first, length_second, length_inv_first, length_inv_second}
use Rattle.mode.specs.Mode.{Lawful, encrypt}
use Rattle.mode.specs.Aes.{aes}
use Rattle.mode.specs.Demands.{IsAes, Aes128And256}

pub aes_lawful : Lawful aes
aes_lawful =
    record {
      first_half-long = λ key b hk hb. length-first key hk b hb;
      second_half-long = λ key b hk hb. length_second key hk b hb;
      first_half_back_long = λ key b hk hb. length_inv_first key hk b hb;
      second_half_back_long = λ key b hk hb. length_inv_second key hk b hb;
      first_half_bytes = λ key b hk hb. (block-first key hk b hb).bytes;
      second_half_bytes = λ key b hk hb. (block_second key hk b hb).bytes;
      first_half_back_bytes = λ key b hk hb. (block_inv_first key hk b hb).bytes;
      second_half_back_bytes = λ key b hk hb. (block_inv_second key hk b hb).bytes;
      first_half_undone = λ key b hk hb. first_undone key hk b hb;
      first_half_back_undone = λ key b hk hb. first_redone key hk b hb;
      second_half_undone = λ key b hk hb. second_undone key hk b hb;
      second_half_back_undone = λ key b hk hb. second_redone key hk b hb;
    }

is_aes : (key : List ℕ) → IsAes aes key (nk_of key) (nr_of key) (nr_of key / 2)
unfolding encrypt Aes.encrypt Aes.decrypt Aes.keys
is_aes key =
    record {
      encrypts = encrypt_halves key;
      halves = encrypt_halves key;
      decrypts = decrypt_halves key;
      middle = first-after key;
    }

pub aes128_and_256 : Aes128And256 aes
aes128_and_256 = record { of_16 = λ key e. subst (by key) e (is_aes key); of_32 = λ key e. subst (by key) e (is_aes key) }
  where
    -- of n bytes
    by : List ℕ → ℕ → Type 0
    by key n = IsAes aes key (n / 4) (n / 4 + 6) ((n / 4 + 6) / 2)
