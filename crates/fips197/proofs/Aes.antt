-- What a mode needs to know of AES, under a key of 16 or 32 bytes: the halves take blocks to blocks, each undoes its inverse, both ways round,
-- and the second after the first is FIPS 197's cipher. The number of rounds is left open: it is whatever the key's words give.
use mathlib.Core.Path.{◌≡◌, sym, ap, ◌∙◌}
use mathlib.Core.List.{List}
use Prim.Native.Nat.{ℕ, ◌/◌}
use native.Mathlib.Omega.{arith}
use Rattle.blocks.specs.Bytes.{Block, Blocks}
use Rattle.fips197.specs.Cipher as C
use Rattle.fips197.specs.Aes.{Key, nk_of, nr_of, keys, first_half, second_half, inv_first_half, inv_second_half, encrypt, decrypt}
use Rattle.fips197.proofs.Rounds as R
use Rattle.fips197.proofs.KeyExpansion.{blocks-round_keys}
use Rattle.fips197.proofs.Keys.{whole_words}
use Rattle.fips197.proofs.Lengths.{enough_keys}

-- ---- the halves are the cipher

pub encrypt_halves : (key s : List ℕ) → second_half key (first_half key s) ≡ encrypt key s
unfolding first_half second_half encrypt
encrypt_halves key s = R.halves_cipher (nr_of key / 2) (nr_of key) (keys key) (omega arith) (enough_keys key) s

pub decrypt_halves : (key s : List ℕ) → inv_first_half key (inv_second_half key s) ≡ decrypt key s
unfolding inv_first_half inv_second_half decrypt
decrypt_halves key s = R.halves_inv_cipher (nr_of key / 2) (nr_of key) (keys key) (omega arith) (enough_keys key) s

-- the first half ends after half of the rounds
pub first-after : (key s : List ℕ) → first_half key s ≡ C.after_round (keys key) s (nr_of key / 2)
unfolding first_half
first-after key s = R.first-after (nr_of key / 2) (keys key) s (omega (arith, enough_keys key))

module _ (key : List ℕ) (hk : Key key) where
  pub blocks-keys : Blocks (keys key)
  unfolding keys
  blocks-keys = blocks-round_keys (nk_of key) (nr_of key) key (omega arith) (whole_words key hk.size) hk.bytes

  -- ---- blocks go to blocks

  pub block-first : (s : List ℕ) → Block s → Block (first_half key s)
  unfolding first_half
  block-first = R.block-first (nr_of key / 2) (nr_of key) (keys key) blocks-keys (enough_keys key)

  pub block_second : (s : List ℕ) → Block s → Block (second_half key s)
  unfolding second_half
  block_second = R.block_second (nr_of key / 2) (nr_of key) (keys key) blocks-keys (enough_keys key)

  pub block_inv_first : (s : List ℕ) → Block s → Block (inv_first_half key s)
  unfolding inv_first_half
  block_inv_first = R.block_inv_first (nr_of key / 2) (nr_of key) (keys key) blocks-keys (enough_keys key)

  pub block_inv_second : (s : List ℕ) → Block s → Block (inv_second_half key s)
  unfolding inv_second_half
  block_inv_second = R.block_inv_second (nr_of key / 2) (nr_of key) (keys key) blocks-keys (enough_keys key)

  -- ---- each half undoes its inverse

  pub first_undone : (s : List ℕ) → Block s → inv_first_half key (first_half key s) ≡ s
  unfolding first_half inv_first_half
  first_undone = R.first_undone (nr_of key / 2) (nr_of key) (keys key) blocks-keys (enough_keys key)

  pub first_redone : (s : List ℕ) → Block s → first_half key (inv_first_half key s) ≡ s
  unfolding first_half inv_first_half
  first_redone = R.first_redone (nr_of key / 2) (nr_of key) (keys key) blocks-keys (enough_keys key)

  pub second_undone : (s : List ℕ) → Block s → inv_second_half key (second_half key s) ≡ s
  unfolding second_half inv_second_half
  second_undone = R.second_undone (nr_of key / 2) (nr_of key) (keys key) blocks-keys (enough_keys key)

  pub second_redone : (s : List ℕ) → Block s → second_half key (inv_second_half key s) ≡ s
  unfolding second_half inv_second_half
  second_redone = R.second_redone (nr_of key / 2) (nr_of key) (keys key) blocks-keys (enough_keys key)

  -- ---- so does the cipher

  pub decrypt-encrypt : (s : List ℕ) → Block s → decrypt key (encrypt key s) ≡ s
  decrypt-encrypt s b =
      sym (decrypt_halves key (encrypt key s)) ∙ ap (λ (x : List ℕ). inv_first_half key (inv_second_half key x)) (sym (encrypt_halves key s))
      ∙ ap (inv_first_half key) (second_undone (first_half key s) (block-first s b)) ∙ first_undone s b

  pub encrypt-decrypt : (s : List ℕ) → Block s → encrypt key (decrypt key s) ≡ s
  encrypt-decrypt s b =
      sym (encrypt_halves key (decrypt key s)) ∙ ap (λ (x : List ℕ). second_half key (first_half key x)) (sym (decrypt_halves key s))
      ∙ ap (second_half key) (first_redone (inv_second_half key s) (block_inv_second s b)) ∙ second_redone s b
