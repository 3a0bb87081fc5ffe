-- Document 01's bench cards (a) to (j), the jump back of ticket P1, the words of ticket P12 and the hash of ticket P4, as rows of one table: what is
-- asked of the formulas, and what they should give.
use Rattle.std.specs.Prelude.{◌≡◌, List, [], ◌∷◌, ◌++◌, map, ℕ, ◌+◌, ◌/◌, ◌≤◌, ℤ, pos, negsuc, length}
use Rattle.blocks.specs.Bytes.{zeros}
use Rattle.blocks.specs.declared.words.Words.{Words}
use Rattle.blocks.specs.Words.{Proper, bytes_of, words_of}
use Rattle.gf128.specs.Gf128.{times_x}
use Rattle.fips197.specs.Sbox.{sbox}
use Rattle.mode.specs.declared.RunRecord.{RunRecord}
use Rattle.fips180.specs.Sha1.{sha1}
use Rattle.mode.specs.Mode.{in_words, by_sha1}
use Rattle.mode.specs.Aes.{aes}
use Rattle.mode.specs.Table.{Answer, given, limit}
use Rattle.mode.specs.Calls.{Outcome, last, blocks_of_run, join_two, jump_mask}

-- What is asked: a mask jumped by a signed number of blocks; a block times the variable; a byte through the S-box; a message's blocks with its
-- padding; two records joined; a block's words; two words' bytes; SHA-1 of a text; the hash finish of a key, a pre-authenticator and a mask.
pub data Question : Type 0 where
  jumps : List ℕ → ℤ → Question
  multiplies : List ℕ → Question
  substitutes : ℕ → Question
  pads : List ℕ → Question
  joins : RunRecord → RunRecord → Question
  splits : List ℕ → Question
  spells : Words → Question
  hashes : List ℕ → Question
  finishes : List ℕ → List ℕ → List ℕ → Question

-- what is given
pub data Result : Type 0 where
  outcome : Outcome (List ℕ) → Result
  block : List ℕ → Result
  byte : ℕ → Result
  several : List (List ℕ) → Result
  answer : Answer RunRecord → Result
  words : Words → Result

-- what the formulas give; the jump is lent an output of 16 bytes
unfoldable pub result : Question → Result
result (jumps mask distance) = outcome (jump_mask mask distance 16)
result (multiplies b) = block (times_x b)
result (substitutes b) = byte (sbox b)
result (pads message) = several (blocks_of_run last message)
result (joins l r) = answer (join_two in_words l r)
result (splits b) = words (words_of b)
result (spells w) = block (bytes_of w)
result (hashes text) = block (sha1 text)
result (finishes key a mask) = block (by_sha1.tag_from aes key a mask)

-- ---- the table

-- 00..01
abbrev one : List ℕ
one = zeros 15 ++ (0x01 ∷ [])

-- R1, the start mask of source document 003
abbrev r1 : List ℕ
r1 =
    0xfd ∷ 0xed ∷ 0x29 ∷ 0x92 ∷ 0x09 ∷ 0x13 ∷ 0xa3 ∷ 0xda ∷ 0x8c ∷ 0x9e ∷ 0xca ∷ 0x2f ∷ 0x0f ∷ 0xd4 ∷ 0x34 ∷ 0xaa ∷ []

-- and its words
abbrev r1-words : Words
r1-words = record { high = 0xfded29920913a3da; low = 0x8c9eca2f0fd434aa }

-- R2, and the pre-authenticator of its first block
abbrev r2 : List ℕ
r2 =
    0xfb ∷ 0xda ∷ 0x53 ∷ 0x24 ∷ 0x12 ∷ 0x27 ∷ 0x47 ∷ 0xb5 ∷ 0x19 ∷ 0x3d ∷ 0x94 ∷ 0x5e ∷ 0x1f ∷ 0xa8 ∷ 0x69 ∷ 0xd3 ∷ []

abbrev a1 : List ℕ
a1 =
    0xc3 ∷ 0x1f ∷ 0xdb ∷ 0x74 ∷ 0x3a ∷ 0xa1 ∷ 0x99 ∷ 0xcb ∷ 0x78 ∷ 0xaa ∷ 0x15 ∷ 0x6a ∷ 0xed ∷ 0x16 ∷ 0x2e ∷ 0xb9 ∷ []

-- 15 bytes, and the same and one more, which is its key
abbrev bytes15 : List ℕ
bytes15 = 0x00 ∷ 0x01 ∷ 0x02 ∷ 0x03 ∷ 0x04 ∷ 0x05 ∷ 0x06 ∷ 0x07 ∷ 0x08 ∷ 0x09 ∷ 0x0a ∷ 0x0b ∷ 0x0c ∷ 0x0d ∷ 0x0e ∷ []

abbrev bytes16 : List ℕ
bytes16 = bytes15 ++ (0x0f ∷ [])

-- three blocks from block 2 on, and no block after them
abbrev some_run : RunRecord
some_run = record { first = 2; count = 3; preauthenticator = r1-words }

abbrev no_run : RunRecord
no_run = record { first = 5; count = 0; preauthenticator = record { high = 0; low = 0 } }

-- an answer of 16 bytes that fills the lent output
abbrev filled : List ℕ → Result
filled bytes = outcome (record { answer = given bytes; reported = 16; output = bytes })

abbrev pub table : List (Question × Result)
table =
    -- (a), (b), (c)
    (jumps one (pos 0), filled one)
    ∷ (jumps one (pos 127), filled (0x80 ∷ zeros 15))
    ∷ (jumps one (pos 128), filled (zeros 15 ++ (0x87 ∷ [])))
    -- P1: by -1
    ∷ (jumps one (negsuc 0), filled (0x80 ∷ zeros 14 ++ (0x43 ∷ [])))
    -- (d)
    ∷ (multiplies r1, block r2)
    -- (e), (f)
    ∷ (substitutes 0x00, byte 0x63)
    ∷ (substitutes 0x53, byte 0xed)
    -- (g), (h), (i)
    ∷ (pads [], several ((0x80 ∷ zeros 15) ∷ []))
    ∷ (pads bytes15, several ((bytes15 ++ (0x80 ∷ [])) ∷ []))
    ∷ (pads bytes16, several (bytes16 ∷ (0x80 ∷ zeros 15) ∷ []))
    -- (j)
    ∷ (joins some_run no_run, answer (given some_run))
    -- P12: the first eight bytes are the upper word
    ∷ (splits r1, words r1-words)
    ∷ (spells r1-words, block r1)
    -- P4: FIPS 180-4's abc, and the AUTH-SHA-1 of source document 003's first vector
    ∷ (
      hashes (0x61 ∷ 0x62 ∷ 0x63 ∷ []),
      block (0xa9 ∷ 0x99 ∷ 0x3e ∷ 0x36 ∷ 0x47 ∷ 0x06 ∷ 0x81 ∷ 0x6a ∷ 0xba ∷ 0x3e ∷ 0x25 ∷ 0x71 ∷ 0x78 ∷ 0x50 ∷ 0xc2 ∷ 0x6c ∷ 0x9c ∷ 0xd0 ∷ 0xd8 ∷ 0x9d ∷ []),
    )
    ∷ (
      finishes bytes16 a1 r2,
      block (0xec ∷ 0xfa ∷ 0x37 ∷ 0x5f ∷ 0x61 ∷ 0x5d ∷ 0xb0 ∷ 0x78 ∷ 0x34 ∷ 0xf5 ∷ 0x0c ∷ 0x7b ∷ 0x9c ∷ 0x3b ∷ 0x08 ∷ 0xa9 ∷ 0xc9 ∷ 0xd3 ∷ 0xf1 ∷ 0x2f ∷ []),
    )
    ∷ []

-- THE EXAMPLES: what the formulas give to all of the table's questions is what they should give.
abbrev pub AllAgree : Type 0
AllAgree = map (λ (row : Question × Result). result row.0) table ≡ map (λ (row : Question × Result). row.1) table

-- ---- laws

-- (j), of every record within the limit: joining it with an empty right neighbour whose pre-authenticator is zero gives the record
abbrev pub EmptyNeighbour : Type 0
EmptyNeighbour =
    (r : RunRecord) → Proper r.preauthenticator → r.first + r.count ≤ limit
    → join_two in_words r (record { first = r.first + r.count; count = 0; preauthenticator = record { high = 0; low = 0 } }) ≡ given r

-- (g), (h), (i), of every message: it pads to one block more than it fills
abbrev pub PaddedCount : Type 0
PaddedCount = (message : List ℕ) → length (blocks_of_run last message) ≡ length message / 16 + 1
