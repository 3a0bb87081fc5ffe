-- The block that a key of 16 or 32 bytes lends to step 1.
use mathlib.Core.Path.{◌≡◌, ap}
use mathlib.Core.List.{List, ◌++◌}
use Prim.Native.Nat.{ℕ}
use native.Mathlib.Omega.{arith}
use lib.ListN.{length}
use lib.Seq.{length-take-le, take_all, take_at}
use Rattle.blocks.specs.Bytes.{Block}
use Rattle.blocks.proofs.Chunks.{bytes_take}
use Rattle.fips197.specs.Aes.{KeyLength, Key}
use Rattle.fips197.proofs.Keys.{at_least_16}
use Rattle.mode.specs.Mode.{Cipher, key_block, start_mask}
use Rattle.mode.specs.Demands.{start_mask_by, KeyInStepOne}

-- a key of 16 bytes lends itself, and one of 32 its first 16
pub key_block-first : (a b : List ℕ) → length a ≡ 16 → key_block (a ++ b) ≡ a
unfolding key_block
key_block-first a b e = take_at a b 16 e

pub key_block_short : (key : List ℕ) → length key ≡ 16 → key_block key ≡ key
unfolding key_block
key_block_short key e = take_all 16 key (omega arith)

pub key_block-long : (key : List ℕ) → KeyLength key → length (key_block key) ≡ 16
unfolding key_block
key_block-long key h = length-take-le 16 key (at_least_16 key h)

pub block-key_block : (key : List ℕ) → Key key → Block (key_block key)
unfolding key_block
block-key_block key h = record { long = key_block-long key h.size; bytes = bytes_take 16 key h.bytes }

-- it is what step 1 adds, and what replaces a sum of zero
pub key_in_step_one : (c : Cipher) → KeyInStepOne c
unfolding start_mask
key_in_step_one c =
    record {
      of_16 = λ key iv e. ap (λ (k : List ℕ). start_mask_by c key k iv) (key_block_short key e);
      of_32 = λ a b iv ha hb. ap (λ (k : List ℕ). start_mask_by c (a ++ b) k iv) (key_block-first a b ha);
    }
