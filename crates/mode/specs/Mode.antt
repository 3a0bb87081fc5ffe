-- The mode of document 01 (source documents 000 and 003), over any block cipher that is cut into two halves, with any finish.
use Rattle.std.specs.Prelude.{◌≡◌, List, [], ◌∷◌, ◌++◌, cond, ℕ, ◌+◌, ◌-◌, ◌/◌, ◌%◌, length, take, drop}
use Rattle.blocks.specs.Bytes.{Bytes, Block, xor_bytes, same, zeros, first_blocks}
use Rattle.blocks.specs.Words.{bytes_of, words_of}
use Rattle.gf128.specs.Gf128.{times_x}
use Rattle.fips197.specs.Aes.{KeyLength, Key}
use Rattle.fips180.specs.Sha1.{sha1}
-- document 01's run record, as the code declares it: first, count, and the pre-authenticator in two words (ticket P12)
pub use Rattle.mode.specs.declared.RunRecord.{RunRecord}
use Rattle.mode.specs.declared.finish.Finish.{Finish as Named}
use Rattle.mode.specs.declared.finish.Finish.TheVariants.{Cipher as NamedCipher, Sha1 as NamedSha1}

-- The cipher's two halves, each run forwards and backwards: key, then block.
pub record Cipher : Type 0 where
  pub first_half : List ℕ → List ℕ → List ℕ
  pub second_half : List ℕ → List ℕ → List ℕ
  pub first_half_back : List ℕ → List ℕ → List ℕ
  pub second_half_back : List ℕ → List ℕ → List ℕ

-- What the mode needs to know of it, under a key of 16 or 32 bytes: each half gives a block, and is undone by its inverse, both ways round.
pub record Lawful (c : Cipher) : Type 0 where
  pub first_half-long : (key b : List ℕ) → KeyLength key → length b ≡ 16 → length (c.first_half key b) ≡ 16
  pub second_half-long : (key b : List ℕ) → KeyLength key → length b ≡ 16 → length (c.second_half key b) ≡ 16
  pub first_half_back_long : (key b : List ℕ) → KeyLength key → length b ≡ 16 → length (c.first_half_back key b) ≡ 16
  pub second_half_back_long : (key b : List ℕ) → KeyLength key → length b ≡ 16 → length (c.second_half_back key b) ≡ 16
  pub first_half_bytes : (key b : List ℕ) → Key key → Block b → Bytes (c.first_half key b)
  pub second_half_bytes : (key b : List ℕ) → Key key → Block b → Bytes (c.second_half key b)
  pub first_half_back_bytes : (key b : List ℕ) → Key key → Block b → Bytes (c.first_half_back key b)
  pub second_half_back_bytes : (key b : List ℕ) → Key key → Block b → Bytes (c.second_half_back key b)
  pub first_half_undone : (key b : List ℕ) → Key key → Block b → c.first_half_back key (c.first_half key b) ≡ b
  pub first_half_back_undone : (key b : List ℕ) → Key key → Block b → c.first_half key (c.first_half_back key b) ≡ b
  pub second_half_undone : (key b : List ℕ) → Key key → Block b → c.second_half_back key (c.second_half key b) ≡ b
  pub second_half_back_undone : (key b : List ℕ) → Key key → Block b → c.second_half key (c.second_half_back key b) ≡ b

-- THE FINISH (ticket P4): what makes a tag of the key, the pre-authenticator and the mask after the last block, over a cipher; and how many
-- bytes a tag has.
pub record Finish : Type 0 where
  pub tag_length : ℕ
  pub tag_from : Cipher → List ℕ → List ℕ → List ℕ → List ℕ

-- What the mode needs to know of it: its tags have that many bytes.
pub record LawfulFinish (t : Finish) (c : Cipher) : Type 0 where
  pub tag_long : (key preauthenticator mask : List ℕ) → KeyLength key → length preauthenticator ≡ 16 → length mask ≡ 16
      → length (t.tag_from c key preauthenticator mask) ≡ t.tag_length

-- ---- bytes and blocks

-- the blocks of a list of bytes
unfoldable pub blocks_of : List ℕ → List (List ℕ)
blocks_of bytes = first_blocks (length bytes / 16) bytes

-- Padding (source document 002, over whole bytes): always one byte 80, then 0 to 15 zero bytes, to the next multiple of 16.
unfoldable pub padded : List ℕ → List ℕ
padded message = message ++ (0x80 ∷ zeros (15 - length message % 16))

abbrev pub zero_block : List ℕ
zero_block = zeros 16

-- Ticket P8: where the mode adds the key to a block or uses it as a mask, a long key lends its first 16 bytes. Source document 000 has keys of
-- 16 bytes alone, which lend themselves; the rule for others is document 02's. Step 1 is the only place.
unfoldable pub key_block : List ℕ → List ℕ
key_block key = take 16 key

-- what a sealed record has beside the ciphertext: the IV and the tag
abbrev pub overhead : Finish → ℕ
overhead t = 16 + t.tag_length

-- a sealed record's parts: the IV, the ciphertext and the tag
unfoldable pub iv_part : List ℕ → List ℕ
iv_part sealed = take 16 sealed

unfoldable pub cipher_part : Finish → List ℕ → List ℕ
cipher_part t sealed = take (length sealed - overhead t) (drop 16 sealed)

unfoldable pub tag_part : Finish → List ℕ → List ℕ
tag_part t sealed = drop (length sealed - t.tag_length) sealed

-- ---- steps 1 to 3

-- which blocks are in hand: the padded message's, or the ciphertext's
pub data Source : Type 0 where
  plaintext ciphertext : Source

-- what step 2 leaves after some blocks
pub record Pass : Type 0 where
  pub output : List ℕ
  pub preauthenticator : List ℕ
  pub mask : List ℕ

-- A FORM OF RUN RECORDS: how one is made of the number of its first block, its block count and its pre-authenticator, which is a block, and
-- how these are read from it.
pub record Form : Type 1 where
  pub Record : Type 0
  pub make : ℕ → ℕ → List ℕ → Record
  pub first : Record → ℕ
  pub count : Record → ℕ
  pub preauthenticator : Record → List ℕ

-- in two words, as the calls give and take them
abbrev pub in_words : Form
in_words = record {
  Record = RunRecord;
  make = λ first count p. record { first = first; count = count; preauthenticator = words_of p };
  first = λ r. r.first;
  count = λ r. r.count;
  preauthenticator = λ r. bytes_of r.preauthenticator;
}

-- in bytes, as document 01 has them
pub record ByteRecord : Type 0 where
  pub first : ℕ
  pub count : ℕ
  pub preauthenticator : List ℕ

abbrev pub in_bytes : Form
in_bytes = record {
  Record = ByteRecord;
  make = λ first count p. record { first = first; count = count; preauthenticator = p };
  first = λ r. r.first;
  count = λ r. r.count;
  preauthenticator = λ r. r.preauthenticator;
}

module _ (c : Cipher) where
  -- the whole cipher: the second half after the first
  unfoldable pub encrypt : List ℕ → List ℕ → List ℕ
  encrypt key block = c.second_half key (c.first_half key block)

  -- Step 1. Start mask: encrypt (IV plus key), add the key. If that is zero, the start mask is the key. What is added, and what replaces a
  -- zero sum, is the key's first block; it encrypts by all its bytes.
  unfoldable pub start_mask : List ℕ → List ℕ → List ℕ
  start_mask key iv =
      let sum = xor_bytes (encrypt key (xor_bytes iv (key_block key))) (key_block key) in
      cond (same sum zero_block) (key_block key) sum

  -- Step 2. A block's middletext is the first half applied to (block plus mask); from ciphertext, the second half run backwards on
  -- (ciphertext block plus mask).
  unfoldable pub middletext : Source → List ℕ → List ℕ → List ℕ → List ℕ
  middletext plaintext key mask block = c.first_half key (xor_bytes block mask)
  middletext ciphertext key mask block = c.second_half_back key (xor_bytes block mask)

  -- Step 2. The ciphertext block is the second half of the middletext, plus the mask; where the ciphertext is in hand nothing is written.
  unfoldable pub written : Source → List ℕ → List ℕ → List ℕ → List ℕ
  written plaintext key mask middle = xor_bytes (c.second_half key middle) mask
  written ciphertext key mask middle = []

  -- Step 2 for each block, in order, from a mask and a pre-authenticator: the pre-authenticator is multiplied by the variable and the
  -- middletext added; then the mask is multiplied by the variable.
  unfoldable pub pass : Source → List ℕ → List (List ℕ) → List ℕ → List ℕ → Pass
  pass s key [] mask preauthenticator = record { output = []; preauthenticator = preauthenticator; mask = mask }
  pass s key (block ∷ blocks) mask preauthenticator =
      let middle = middletext s key mask block in
      let rest = pass s key blocks (times_x mask) (xor_bytes (times_x preauthenticator) middle) in
      record { output = written s key mask middle ++ rest.output; preauthenticator = rest.preauthenticator; mask = rest.mask }

  -- steps 1 and 2 over all blocks, nothing cut: the pre-authenticator is zero at first
  unfoldable pub unbroken : Source → List ℕ → List ℕ → List (List ℕ) → Pass
  unbroken s key iv blocks = pass s key blocks (start_mask key iv) zero_block

  -- Step 3. The tag is the encryption of (pre-authenticator plus the mask after the last block), plus the pre-authenticator.
  unfoldable pub encrypted_tag : List ℕ → List ℕ → List ℕ → List ℕ
  encrypted_tag key preauthenticator mask = xor_bytes (encrypt key (xor_bytes preauthenticator mask)) preauthenticator

  -- The record of consecutive blocks (`these`, which stand after the blocks `before`): the block they start at, their count and the
  -- pre-authenticator over them alone, begun from zero, with the masks that steps 1 and 2 give there when nothing is cut.
  unfoldable pub record_of : Source → List ℕ → List ℕ → List (List ℕ) → List (List ℕ) → RunRecord
  record_of s key iv before these =
      in_words.make (length before) (length these) (pass s key these (unbroken s key iv before).mask zero_block).preauthenticator

-- Step 3 with the hash finish (ticket P4; source document 000's H(K, A, R)): SHA-1 of the whole key, the pre-authenticator and the mask after
-- the last block, in that order.
unfoldable pub hashed_tag : List ℕ → List ℕ → List ℕ → List ℕ
hashed_tag key preauthenticator mask = sha1 (key ++ preauthenticator ++ mask)

-- THE TWO FINISHES: document 01's, by the cipher, and ticket P4's, by SHA-1
abbrev pub by_cipher : Finish
by_cipher = record { tag_length = 16; tag_from = encrypted_tag }

abbrev pub by_sha1 : Finish
by_sha1 = record { tag_length = 20; tag_from = λ c. hashed_tag }

-- by the code's name for each
abbrev pub finish_named : Named → Finish
finish_named NamedCipher = by_cipher
finish_named NamedSha1 = by_sha1

-- ---- whole lists, with any finish

module _ (t : Finish) (c : Cipher) where
  -- steps 1 to 3: the tag over all blocks, nothing cut
  unfoldable pub unbroken_tag : Source → List ℕ → List ℕ → List (List ℕ) → List ℕ
  unbroken_tag s key iv blocks = t.tag_from c key (unbroken c s key iv blocks).preauthenticator (unbroken c s key iv blocks).mask

  -- the sealed record of a message: the IV, the ciphertext and the tag
  unfoldable pub sealed_record : List ℕ → List ℕ → List ℕ → List ℕ
  sealed_record key iv message =
      iv ++ (unbroken c plaintext key iv (blocks_of (padded message))).output ++ unbroken_tag plaintext key iv (blocks_of (padded message))

  -- The unbroken check: a sealed record (any bytes of a length that opening takes) passes exactly when steps 1 to 3 over all its
  -- ciphertext, under its IV, give its tag.
  unfoldable pub UnbrokenCheck : List ℕ → List ℕ → Type 0
  UnbrokenCheck key sealed = unbroken_tag ciphertext key (iv_part sealed) (blocks_of (cipher_part t sealed)) ≡ tag_part t sealed
