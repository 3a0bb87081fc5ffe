-- FIPS 197, 5.2: KEYEXPANSION(). A word is four bytes; the words stand one after another in a list of bytes.
use Rattle.std.specs.Prelude.{cond, ◌&&◌, List, [], ◌∷◌, ◌++◌, ℕ, zero, suc, ◌+◌, ◌-◌, ◌*◌, ◌/◌, ◌%◌, eqb, ltb, get_or}
use Rattle.blocks.specs.Bytes.{xor_bytes, first_blocks}
use Rattle.blocks.specs.Field.{steps}
use Rattle.blocks.specs.Tab.{tab}
use Rattle.fips197.specs.Sbox.{sbox}

-- word i of w
unfoldable pub word : List ℕ → ℕ → List ℕ
word w i = tab 4 (λ j. get_or w (i * 4 + j) 0)

unfoldable pub rot_word : List ℕ → List ℕ
rot_word a = tab 4 (λ j. get_or a ((j + 1) % 4) 0)

unfoldable pub sub_word : List ℕ → List ℕ
sub_word a = tab 4 (λ j. sbox (get_or a j 0))

-- the round constant of round j, counted from 1: x^(j - 1)
unfoldable pub round_constant : ℕ → ℕ
round_constant j = steps 7 0x1b (j - 1) 1

-- 5.2, Table 5: as a word
unfoldable pub rcon : ℕ → List ℕ
rcon j = round_constant j ∷ 0 ∷ 0 ∷ 0 ∷ []

-- where the key has nk words: what the word before word i, t, is turned into (the pseudocode's temp)
unfoldable pub temp : ℕ → List ℕ → ℕ → List ℕ
temp nk t i = cond (eqb (i % nk) 0) (xor_bytes (sub_word (rot_word t)) (rcon (i / nk))) (cond (ltb 6 nk && eqb (i % nk) 4) (sub_word t) t)

-- word i
unfoldable pub next_word : ℕ → List ℕ → ℕ → List ℕ
next_word nk w i = xor_bytes (word w (i - nk)) (temp nk (word w (i - 1)) i)

-- the key's nk words and n more
unfoldable pub words : ℕ → List ℕ → ℕ → List ℕ
words nk key zero = key
words nk key (suc n) = words nk key n ++ next_word nk (words nk key n) (nk + n)

-- 4 (nr + 1) words for nr rounds
unfoldable pub key_expansion : ℕ → ℕ → List ℕ → List ℕ
key_expansion nk nr key = words nk key (4 * (nr + 1) - nk)

-- four words are a round key
unfoldable pub round_keys : ℕ → ℕ → List ℕ → List (List ℕ)
round_keys nk nr key = first_blocks (nr + 1) (key_expansion nk nr key)
