-- SHA-1 by FIPS 180-4, in the order of the standard. A text is a list of bytes; a word is a number below 2^32.
use Rattle.std.specs.Prelude.{ℕ, zero, suc, ◌+◌, ◌-◌, ◌*◌, ◌/◌, ◌%◌, ◌^◌, cond, List, [], ◌∷◌, ◌++◌, length, take, drop, bit_and, bit_or, bit_xor, nat_lt, slice_index}
use Rattle.blocks.specs.Bytes.{zeros}
use Rattle.blocks.specs.Num.{num, low_bytes}
use Rattle.blocks.specs.Tab.{tab}
use Rattle.fips180.specs.declared.Hash.{Hash}

-- the longest text that the code takes, in bytes (ticket P4)
abbrev pub longest_text : ℕ
longest_text = 64032

-- ---- 2.2.2 and 3.2: operations on words

-- x + y, modulo 2^32
abbrev pub add : ℕ → ℕ → ℕ
add x y = (x + y) % 2 ^ 32

-- ¬ x
unfoldable pub complement : ℕ → ℕ
complement x = 2 ^ 32 - 1 - x

-- ROTL n x: x << n, or x >> (32 - n)
unfoldable pub rotl : ℕ → ℕ → ℕ
rotl n x = bit_or (x * 2 ^ n % 2 ^ 32) (x / 2 ^ (32 - n))

-- ---- 4.1.1: functions

unfoldable pub ch : ℕ → ℕ → ℕ → ℕ
ch x y z = bit_xor (bit_and x y) (bit_and (complement x) z)

unfoldable pub parity : ℕ → ℕ → ℕ → ℕ
parity x y z = bit_xor (bit_xor x y) z

unfoldable pub maj : ℕ → ℕ → ℕ → ℕ
maj x y z = bit_xor (bit_xor (bit_and x y) (bit_and x z)) (bit_and y z)

-- one of four things: for rounds 0 to 19, 20 to 39, 40 to 59 and 60 to 79
abbrev pub by_round : {A : Type 0} → ℕ → A → A → A → A → A
by_round t p q r s = cond (nat_lt t 20) p (cond (nat_lt t 40) q (cond (nat_lt t 60) r s))

-- the function of round t
unfoldable pub f : ℕ → ℕ → ℕ → ℕ → ℕ
f t x y z = by_round t (ch x y z) (parity x y z) (maj x y z) (parity x y z)

-- ---- 4.2.1: constants

-- the constant of round t
unfoldable pub constant : ℕ → ℕ
constant t = by_round t 0x5a827999 0x6ed9eba1 0x8f1bbcdc 0xca62c1d6

-- ---- 5.1.1: padding. A one bit, zero bits until 64 are missing to a multiple of 512, and the number of bits of the text in 64 bits.

-- how many bytes of zeros stand in it, behind a text of n bytes
unfoldable pub zero_bytes : ℕ → ℕ
zero_bytes n = (119 - n % 64) % 64

-- the one bit is the highest of the byte 80, the zero bits are the rest of it and the bytes of zeros
unfoldable pub padding : ℕ → List ℕ
padding n = (0x80 ∷ zeros (zero_bytes n)) ++ low_bytes 8 (n * 8)

unfoldable pub padded : List ℕ → List ℕ
padded text = text ++ padding (length text)

-- ---- 5.2.1: parsing. A block is sixteen words; the first byte of a word is the highest (3.1).

-- word i of the first block of b
unfoldable pub word : List ℕ → ℕ → ℕ
word b i = num (take 4 (drop (i * 4) b))

-- all its words
unfoldable pub parse : List ℕ → List ℕ
parse b = tab 16 (word b)

-- ---- 5.3.1: the initial hash value

unfoldable pub initial : Hash
initial = record { a = 0x67452301; b = 0xefcdab89; c = 0x98badcfe; d = 0x10325476; e = 0xc3d2e1f0 }

-- ---- 6.1.2: the hash computation

-- step 1: word t of the message schedule, from those before it
unfoldable pub next_word : List ℕ → ℕ → ℕ
next_word ws t = rotl 1 (bit_xor (bit_xor (bit_xor (slice_index ws (t - 3)) (slice_index ws (t - 8))) (slice_index ws (t - 14))) (slice_index ws (t - 16)))

-- the block's words and n more
unfoldable pub schedule : List ℕ → ℕ → List ℕ
schedule m zero = m
schedule m (suc n) = schedule m n ++ (next_word (schedule m n) (16 + n) ∷ [])

-- step 3: round t, with its word
unfoldable pub round : ℕ → ℕ → Hash → Hash
round t w s =
    record {
      a = add (add (add (add (rotl 5 s.a) (f t s.b s.c s.d)) s.e) (constant t)) w;
      b = s.a;
      c = rotl 30 s.b;
      d = s.c;
      e = s.d;
    }

-- rounds from t on, one for each word
unfoldable pub rounds : ℕ → List ℕ → Hash → Hash
rounds t [] s = s
rounds t (w ∷ ws) s = rounds (suc t) ws (round t w s)

-- step 4: the working variables added to the hash value
unfoldable pub sums : Hash → Hash → Hash
sums s h =
    record {
      a = add s.a h.a;
      b = add s.b h.b;
      c = add s.c h.c;
      d = add s.d h.d;
      e = add s.e h.e;
    }

-- steps 1 to 4: a block of sixteen words. The working variables start as the hash value (step 2).
unfoldable pub compress : List ℕ → Hash → Hash
compress m h = sums (rounds 0 (schedule m 64) h) h

-- the hash value after the first n blocks of b
unfoldable pub hash : ℕ → List ℕ → Hash → Hash
hash zero b h = h
hash (suc n) b h = hash n (drop 64 b) (compress (parse b) h)

-- the digest: the five words one after another, 20 bytes
unfoldable pub digest_of : Hash → List ℕ
digest_of h = low_bytes 4 h.a ++ (low_bytes 4 h.b ++ (low_bytes 4 h.c ++ (low_bytes 4 h.d ++ low_bytes 4 h.e)))

-- SHA-1 of a text: every block of the padded text, from the initial hash value on
unfoldable pub sha1 : List ℕ → List ℕ
sha1 text = digest_of (hash (length (padded text) / 64) (padded text) initial)
