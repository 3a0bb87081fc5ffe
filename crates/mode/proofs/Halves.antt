-- Under a key of 16 or 32 bytes every block goes to a block: the halves both ways, the start mask, the middletext, the pre-authenticator.
use mathlib.Core.List.{List, [], ◌∷◌}
use mathlib.Core.Bool.{Bool, true, false, cond}
use Prim.Native.Nat.{ℕ}
use Rattle.blocks.specs.Bytes.{Block, xor_bytes, same}
use Rattle.blocks.proofs.XorBytes.{block-xor}
use Rattle.gf128.specs.Gf128.{times_x}
use Rattle.gf128.proofs.TimesX.{block-times_x}
use Rattle.fips197.specs.Aes.{Key}
use Rattle.mode.specs.Mode.{Cipher, Lawful, Source, plaintext, ciphertext, zero_block, key_block, encrypt, start_mask, middletext, pass}
use Rattle.mode.proofs.Keys.{block-key_block}
use Rattle.mode.proofs.Bytes.{AllBlocks}

module _ (c : Cipher) (laws : Lawful c) (key : List ℕ) (kb : Key key) where
  pub first_block : (b : List ℕ) → Block b → Block (c.first_half key b)
  first_block b h = record { long = laws.first_half-long key b kb.size h.long; bytes = laws.first_half_bytes key b kb h }

  pub second_block : (b : List ℕ) → Block b → Block (c.second_half key b)
  second_block b h = record { long = laws.second_half-long key b kb.size h.long; bytes = laws.second_half_bytes key b kb h }

  pub first_back : (b : List ℕ) → Block b → Block (c.first_half_back key b)
  first_back b h = record { long = laws.first_half_back_long key b kb.size h.long; bytes = laws.first_half_back_bytes key b kb h }

  pub second_back : (b : List ℕ) → Block b → Block (c.second_half_back key b)
  second_back b h = record { long = laws.second_half_back_long key b kb.size h.long; bytes = laws.second_half_back_bytes key b kb h }

  pub start-block : (iv : List ℕ) → Block iv → Block (start_mask c key iv)
  unfolding start_mask encrypt
  start-block iv ib = by (key_block key) (block-key_block key kb) (same (xor_bytes (encrypt c key (xor_bytes iv (key_block key))) (key_block key)) zero_block)
    where
      by : (k : List ℕ) → Block k → (z : Bool) → Block (cond z k (xor_bytes (encrypt c key (xor_bytes iv k)) k))
      by k h true = h
      by k h false =
          block-xor (encrypt c key (xor_bytes iv k)) k (second_block (c.first_half key (xor_bytes iv k)) (first_block (xor_bytes iv k) (block-xor iv k ib h))) h

  pub middle_block : (s : Source) (mask b : List ℕ) → Block mask → Block b → Block (middletext c s key mask b)
  unfolding middletext
  middle_block plaintext mask b hm hb = first_block (xor_bytes b mask) (block-xor b mask hb hm)
  middle_block ciphertext mask b hm hb = second_back (xor_bytes b mask) (block-xor b mask hb hm)

  pub preauthenticator_block : (s : Source) (bs : List (List ℕ)) (mask p : List ℕ) → AllBlocks bs → Block mask → Block p
      → Block (pass c s key bs mask p).preauthenticator
  unfolding pass
  preauthenticator_block s [] mask p h hm hp = hp
  preauthenticator_block s (b ∷ bs) mask p h hm hp =
      let t = middletext c s key mask b in
      preauthenticator_block s bs (times_x mask) (xor_bytes (times_x p) t) h.1 (block-times_x mask hm.long)
      (block-xor (times_x p) t (block-times_x p hp.long) (middle_block s mask b hm h.0))
