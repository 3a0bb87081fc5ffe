-- A lawful cipher that is easy to compute with, and settings over it: what the statements of the demands come to in small cases.
use mathlib.Core.Path.{◌≡◌, refl, sym, ◌∙◌}
use mathlib.Core.List.{List, [], ◌∷◌, ◌++◌}
use Prim.Native.Nat.{ℕ, ◌-◌}
use native.Mathlib.Omega.{arith}
use lib.ListN.{length, drop, replicate, length-drop}
use lib.Dec.{lit≤}
use Rattle.blocks.specs.Bytes.{Block, xor_bytes, first_blocks, same, concat}
use Rattle.blocks.specs.Num.{num, low_bytes}
use Rattle.blocks.specs.Words.{bytes_of, words_of}
use Rattle.blocks.proofs.Chunks.{bytes_drop}
use Rattle.blocks.proofs.Test.{bytes_by}
use Rattle.blocks.proofs.XorBytes.{xor_bytes_cancel, block-xor}
use Rattle.gf128.specs.Gf128.{times_x, jump, carry, shift_left, reduction}
use Rattle.fips197.specs.Aes.{KeyLength, short, long, Key}
use Rattle.mode.specs.Mode.{Cipher, Lawful, zero_block, key_block, blocks_of, padded, encrypt, start_mask, middletext, written, pass, unbroken, record_of, iv_part, cipher_part, tag_part, encrypted_tag, hashed_tag, Finish, by_cipher, unbroken_tag, sealed_record}
use Rattle.mode.specs.Table.{decide, not_key, not16, unaligned, beyond_within, any_beyond_within, apart, none, not_whole, not_tag, not_sealed_within, zero_mask}
use Rattle.mode.specs.Calls.{unaligned_run, blocks_of_run, outcome_by, joined, joined_onto, joined_all, join_two, join_list, pass_from, run_record, seal_run, check_run, closing_tag, close, test, open_sealed, open_rows_within, not_padded, or_empty, unpadded, unpad_from, plaintext_of, decrypted}
use Rattle.mode.specs.Parallel.{sealing, checking, source_of, finish_of, iv_of, text_of, last_kind, all_blocks, Fits, Cut, Setting, WellFormed, runs_from, blocks_of_runs, runs_in, record_in, bytes_in, is_recorded, runs_of, bytes_of_segments, blocks_in, consecutive, AllRecorded, Allowed, merge_by, record_by, head_or, first_run, empties, start, room_of, outcome_of_run, run_outcome, answer_of, after, after_all, EachCall}
use Rattle.mode.specs.Demands.{whole, whole_tag, record_of_segments, ciphertext_of_segment, Expected, TestedAs}
use Rattle.fips197.proofs.Keys.{at_least_16}
use Rattle.mode.proofs.Laws.{xor-long}

-- the first half adds the last 16 bytes of the key, and the second changes nothing
abbrev pub toy_block : List ℕ → List ℕ
toy_block key = drop (length key - 16) key

abbrev pub toy : Cipher
toy = record {
  first_half = λ key b. xor_bytes b (toy_block key);
  second_half = λ key b. b;
  first_half_back = λ key b. xor_bytes b (toy_block key);
  second_half_back = λ key b. b;
}

toy_long : (key : List ℕ) → KeyLength key → length (toy_block key) ≡ 16
toy_long key h = length-drop (length key - 16) key ∙ omega (arith, at_least_16 key h)

toy_block_lem : (key : List ℕ) → Key key → Block (toy_block key)
toy_block_lem key h = record { long = toy_long key h.size; bytes = bytes_drop (length key - 16) key h.bytes }

twice : (key b : List ℕ) → Key key → Block b → xor_bytes (xor_bytes b (toy_block key)) (toy_block key) ≡ b
twice key b hk hb = xor_bytes_cancel b (toy_block key) (hb.long ∙ sym (toy_long key hk.size))

pub toy_lawful : Lawful toy
toy_lawful =
    record {
      first_half-long = λ key b hk hb. xor-long b (toy_block key) hb (toy_long key hk);
      second_half-long = λ key b hk hb. hb;
      first_half_back_long = λ key b hk hb. xor-long b (toy_block key) hb (toy_long key hk);
      second_half_back_long = λ key b hk hb. hb;
      first_half_bytes = λ key b hk hb. (block-xor b (toy_block key) hb (toy_block_lem key hk)).bytes;
      second_half_bytes = λ key b hk hb. hb.bytes;
      first_half_back_bytes = λ key b hk hb. (block-xor b (toy_block key) hb (toy_block_lem key hk)).bytes;
      second_half_back_bytes = λ key b hk hb. hb.bytes;
      first_half_undone = twice;
      first_half_back_undone = twice;
      second_half_undone = λ key b hk hb. refl;
      second_half_back_undone = λ key b hk hb. refl;
    }

-- to unfold this is to unfold all that a small case computes by
unfoldable pub computed : Unit {0}
unfolding xor_bytes first_blocks same concat num low_bytes bytes_of words_of times_x jump carry shift_left reduction blocks_of padded key_block encrypt start_mask middletext written pass unbroken record_of iv_part cipher_part tag_part encrypted_tag hashed_tag unbroken_tag sealed_record decide not_key not16 unaligned beyond_within any_beyond_within apart none not_whole not_tag not_sealed_within zero_mask unaligned_run blocks_of_run outcome_by joined joined_onto joined_all join_two join_list pass_from run_record seal_run check_run closing_tag close test open_sealed open_rows_within not_padded or_empty unpadded unpad_from plaintext_of decrypted source_of finish_of iv_of text_of last_kind all_blocks Fits Cut runs_from blocks_of_runs runs_in record_in bytes_in is_recorded runs_of bytes_of_segments blocks_in consecutive AllRecorded Allowed merge_by record_by head_or first_run empties start room_of outcome_of_run run_outcome answer_of after after_all EachCall whole whole_tag record_of_segments ciphertext_of_segment Expected TestedAs
computed = tt

abbrev pub a_key : List ℕ
a_key = replicate 16 1

pub a_key_is : Key a_key
a_key_is = record { size = short refl; bytes = bytes_by a_key tt }

-- one of 32 bytes: it lends the first 16, and the cipher adds the last 16
abbrev pub a_long_key : List ℕ
a_long_key = replicate 16 1 ++ replicate 16 9

pub a_long_key_is : Key a_long_key
a_long_key_is = record { size = long refl; bytes = bytes_by a_long_key tt }

abbrev pub an_iv : List ℕ
an_iv = replicate 16 2

-- the empty message in one piece, which gets the padding, with any finish
abbrev pub one_piece : Finish → Setting
one_piece t = record { key = a_key; work = sealing t an_iv []; pieces = [] ∷ [] }

pub one_piece_formed : (t : Finish) → WellFormed (one_piece t)
unfolding computed
one_piece_formed t = record { key_is = a_key_is; iv_bytes = bytes_by an_iv tt; text_bytes = bytes_by [] tt; fits = (refl, lit≤ tt); cut = tt; pieces_are = refl }

-- the same under a key of zeros; and under an IV that is the key, so that step 1 comes to zero and the key is the start mask
abbrev pub zero_key : Setting
zero_key = record { key = zero_block; work = sealing by_cipher an_iv []; pieces = [] ∷ [] }

pub zero_key_formed : WellFormed zero_key
unfolding computed
zero_key_formed = record { key_is = record { size = short refl; bytes = bytes_by zero_block tt }; iv_bytes = bytes_by an_iv tt; text_bytes = bytes_by [] tt; fits = (refl, lit≤ tt); cut = tt; pieces_are = refl }

abbrev pub replaced : Setting
replaced = record { key = a_key; work = sealing by_cipher a_key []; pieces = [] ∷ [] }

pub replaced_formed : WellFormed replaced
unfolding computed
replaced_formed = record { key_is = a_key_is; iv_bytes = bytes_by a_key tt; text_bytes = bytes_by [] tt; fits = (refl, lit≤ tt); cut = tt; pieces_are = refl }

-- a key of 32 bytes under the IV that is its last 16: step 1 comes to zero again, and the first 16 are the start mask
abbrev pub long_replaced : Setting
long_replaced = record { key = a_long_key; work = sealing by_cipher (replicate 16 9) []; pieces = [] ∷ [] }

pub long_replaced_formed : WellFormed long_replaced
unfolding computed
long_replaced_formed = record { key_is = a_long_key_is; iv_bytes = bytes_by (replicate 16 9) tt; text_bytes = bytes_by [] tt; fits = (refl, lit≤ tt); cut = tt; pieces_are = refl }

-- the sealed record of the empty message with some tag, its ciphertext in one piece: the tag is 7 in each byte (proofs/Refuted.antt)
abbrev pub one_text : List ℕ
one_text = 0x81 ∷ replicate 15 1

abbrev pub one_checked : ℕ → Setting
one_checked byte = record { key = a_key; work = checking by_cipher (an_iv ++ (one_text ++ replicate 16 byte)); pieces = one_text ∷ [] }

pub one_checked_formed : (byte : ℕ) → WellFormed (one_checked byte)
unfolding computed
one_checked_formed byte = record { key_is = a_key_is; iv_bytes = bytes_by an_iv tt; text_bytes = bytes_by one_text tt; fits = (lit≤ tt, lit≤ tt, refl); cut = refl; pieces_are = refl }

-- a ciphertext of two blocks in two pieces
abbrev pub two_checked : Setting
two_checked = record { key = a_key; work = checking by_cipher (replicate 64 7); pieces = replicate 16 7 ∷ replicate 16 7 ∷ [] }

pub two_checked_formed : WellFormed two_checked
unfolding computed
two_checked_formed = record { key_is = a_key_is; iv_bytes = bytes_by (replicate 16 7) tt; text_bytes = bytes_by (replicate 32 7) tt; fits = (lit≤ tt, lit≤ tt, refl); cut = (refl, refl); pieces_are = refl }

-- 32 bytes in three pieces: a block, a block, and nothing but the padding
abbrev pub three_pieces : Setting
three_pieces =
    record {
      key = a_key;
      work = sealing by_cipher an_iv (replicate 16 3 ++ (replicate 16 4 ++ []));
      pieces = replicate 16 3 ∷ replicate 16 4 ∷ [] ∷ [];
    }

pub three_pieces_formed : WellFormed three_pieces
unfolding computed
three_pieces_formed = record { key_is = a_key_is; iv_bytes = bytes_by an_iv tt; text_bytes = bytes_by (replicate 16 3 ++ (replicate 16 4 ++ [])) tt; fits = (refl, lit≤ tt); cut = (refl, (refl, tt)); pieces_are = refl }
