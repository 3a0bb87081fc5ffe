-- The two forms of a block. Each byte form has one word form, and the reverse; and two words have the number of their bytes.
use mathlib.Core.Path.{◌≡◌, sym, ap, ap₂, subst, ◌∙◌}
use mathlib.Core.List.{List, [], ◌∷◌, ◌++◌}
use Prim.Native.Nat.{ℕ, ◌+◌, ◌*◌, ◌/◌, ◌%◌, ◌^◌, ◌<◌}
use native.Mathlib.Nat.{mod-eq_of_lt}
use native.Mathlib.Omega.{arith}
use mir.Val.{Fits}
use mir.Syntax.{w64}
use lib.Bits.{bit_xor, xor_block, xor_lt}
use lib.ListN.{length, get_or, take, drop, length-append, length-drop, take-append-drop}
use lib.Seq.{take_at, drop_at, length-take-le}
use Rattle.blocks.specs.Bytes.{Bytes, Block, xor_bytes}
use Rattle.blocks.specs.Num.{num, low_bytes}
use Rattle.blocks.specs.Tab.{tab}
use Rattle.blocks.specs.Words.{Words, Proper, bytes_of, words_of}
use Rattle.blocks.proofs.Chunks.{bytes_take, bytes_drop, bytes_append}
use Rattle.blocks.proofs.Tab.{tab_self}
use Rattle.blocks.proofs.XorBytes.{block-xor}
use Rattle.blocks.proofs.Num.{num-lt, num_injective, same_block, length-low_bytes, bytes_low_bytes, num-low_bytes, num-append, num-xor}

-- as the borrow checker knows two numbers of 64 bits
pub proper_by : (w : Words) → Fits w64 w.high → Fits w64 w.low → Proper w
proper_by w h l = record { high = h.fits; low = l.fits }

pub same-words : (v w : Words) → v.high ≡ w.high → v.low ≡ w.low → v ≡ w
same-words v w h l = λ i. record { high = h i; low = l i }

-- the bytes of any two words are a block
pub block-bytes_of : (w : Words) → Block (bytes_of w)
unfolding bytes_of
block-bytes_of w =
    record {
      long = length-append (low_bytes 8 w.high) (low_bytes 8 w.low) ∙ ap₂ (λ (n m : ℕ). n + m) (length-low_bytes 8 w.high) (length-low_bytes 8 w.low);
      bytes = bytes_append (low_bytes 8 w.high) (low_bytes 8 w.low) (bytes_low_bytes 8 w.high) (bytes_low_bytes 8 w.low);
    }

-- a number of 64 bits, from its eight bytes; and eight bytes, from their number
num-word : (v : ℕ) → v < 2 ^ 64 → num (low_bytes 8 v) ≡ v
num-word v h = num-low_bytes 8 v ∙ mod-eq_of_lt h

bytes_word : (a : List ℕ) → length a ≡ 8 → Bytes a → low_bytes 8 (num a) ≡ a
bytes_word a e h =
    num_injective (low_bytes 8 (num a)) a (length-low_bytes 8 (num a) ∙ sym e) (bytes_low_bytes 8 (num a)) h
    (num-word (num a) (subst (λ (n : ℕ). num a < 2 ^ (n * 8)) e (num-lt a h)))

module _ (b : List ℕ) (h : Block b) where
  front_long : length (take 8 b) ≡ 8
  front_long = length-take-le 8 b (omega (arith, h.long))

  back_long : length (drop 8 b) ≡ 8
  back_long = length-drop 8 b ∙ omega (arith, h.long)

  pub proper_words_of : Proper (words_of b)
  unfolding words_of
  proper_words_of =
      record {
        high = subst (λ (n : ℕ). num (take 8 b) < 2 ^ (n * 8)) front_long (num-lt (take 8 b) (bytes_take 8 b h.bytes));
        low = subst (λ (n : ℕ). num (drop 8 b) < 2 ^ (n * 8)) back_long (num-lt (drop 8 b) (bytes_drop 8 b h.bytes));
      }

  -- EACH BYTE FORM HAS ONE WORD FORM
  pub bytes_words : bytes_of (words_of b) ≡ b
  unfolding bytes_of words_of
  bytes_words =
      ap₂ (λ (x y : List ℕ). x ++ y) (bytes_word (take 8 b) front_long (bytes_take 8 b h.bytes)) (bytes_word (drop 8 b) back_long (bytes_drop 8 b h.bytes))
      ∙ take-append-drop 8 b

-- so two blocks that have the same words are one
pub same_bytes : (a b : List ℕ) → Block a → Block b → words_of a ≡ words_of b → a ≡ b
same_bytes a b ha hb e = sym (bytes_words a ha) ∙ ap bytes_of e ∙ bytes_words b hb

-- AND THE REVERSE
pub words_bytes : (w : Words) → Proper w → words_of (bytes_of w) ≡ w
unfolding bytes_of words_of
words_bytes w h =
    let e : length (low_bytes 8 w.high) ≡ 8 = length-low_bytes 8 w.high in
    same-words (words_of (bytes_of w)) w
    (ap num (take_at (low_bytes 8 w.high) (low_bytes 8 w.low) 8 e) ∙ num-word w.high h.high)
    (ap num (drop_at (low_bytes 8 w.high) (low_bytes 8 w.low) 8 e) ∙ num-word w.low h.low)

-- so words that have these bytes are the word form of them
pub words_of_lem : (w : Words) (b : List ℕ) → Proper w → bytes_of w ≡ b → w ≡ words_of b
words_of_lem w b h e = sym (words_bytes w h) ∙ ap words_of e

-- ---- as the code does it

-- words that are the numbers of the two halves, byte by byte
pub words-by : (b : List ℕ) (h l : ℕ) → Block b → h ≡ num (take 8 (tab 16 (λ i. get_or b i 0))) → l ≡ num (drop 8 (tab 16 (λ i. get_or b i 0)))
    → bytes_of (record { high = h; low = l }) ≡ b
unfolding words_of
words-by b h l hb eh el =
    let e = tab_self 16 b hb.long in
    ap bytes_of
    (same-words (record { high = h; low = l }) (words_of b) (eh ∙ ap (λ (x : List ℕ). num (take 8 x)) e) (el ∙ ap (λ (x : List ℕ). num (drop 8 x)) e))
    ∙ bytes_words b hb

-- the eight bytes of a word, by shifts
abbrev pub shifts : ℕ → List ℕ
shifts v = v / 2 ^ 56 % 256 ∷ v / 2 ^ 48 % 256 ∷ v / 2 ^ 40 % 256 ∷ v / 2 ^ 32 % 256 ∷ v / 2 ^ 24 % 256 ∷ v / 2 ^ 16 % 256 ∷ v / 2 ^ 8 % 256 ∷ v % 256 ∷ []

shifts_low : (v : ℕ) → shifts v ≡ low_bytes 8 v
unfolding low_bytes
shifts_low v = let e : v / 1 ≡ v = omega arith in rw e

pub bytes_by_shifts : (w : Words) → shifts w.high ++ shifts w.low ≡ bytes_of w
unfolding bytes_of
bytes_by_shifts w = ap₂ (λ (x y : List ℕ). x ++ y) (shifts_low w.high) (shifts_low w.low)

-- ---- two words as one number

pub num-bytes_of : (w : Words) → Proper w → num (bytes_of w) ≡ w.high * 2 ^ 64 + w.low
unfolding bytes_of
num-bytes_of w h =
    num-append (low_bytes 8 w.high) (low_bytes 8 w.low)
    ∙ ap (λ (n : ℕ). num (low_bytes 8 w.high) * 2 ^ (n * 8) + num (low_bytes 8 w.low)) (length-low_bytes 8 w.low)
    ∙ ap₂ (λ (x y : ℕ). x * 2 ^ 64 + y) (num-word w.high h.high) (num-word w.low h.low)

-- words of a block's number have its bytes
pub bytes_by_num : (w : Words) (b : List ℕ) → Proper w → Block b → w.high * 2 ^ 64 + w.low ≡ num b → bytes_of w ≡ b
bytes_by_num w b h hb e = same_block (block-bytes_of w) hb (num-bytes_of w h ∙ e)

-- ---- exclusive or

pub xor-words : (v w : Words) → Proper v → Proper w
    → bytes_of (record { high = bit_xor v.high w.high; low = bit_xor v.low w.low }) ≡ xor_bytes (bytes_of v) (bytes_of w)
xor-words v w hv hw =
    bytes_by_num (record { high = bit_xor v.high w.high; low = bit_xor v.low w.low }) (xor_bytes (bytes_of v) (bytes_of w))
    (record { high = xor_lt 64 v.high w.high hv.high hw.high; low = xor_lt 64 v.low w.low hv.low hw.low })
    (block-xor (bytes_of v) (bytes_of w) (block-bytes_of v) (block-bytes_of w))
    (sym (num-xor (bytes_of v) (bytes_of w) (block-bytes_of v) (block-bytes_of w) ∙ ap₂ bit_xor (num-bytes_of v hv) (num-bytes_of w hw)
    ∙ xor_block 64 v.high w.high v.low w.low hv.low hw.low))
