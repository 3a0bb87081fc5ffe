-- Two 64-bit words for sixteen bytes (ticket P12): the first eight bytes are the upper word, most significant byte first.
use Rattle.std.specs.Prelude.{List, ◌++◌, ℕ, ◌^◌, ◌<◌, take, drop}
use Rattle.blocks.specs.Num.{num, low_bytes}
-- as the code declares them: high, low
pub use Rattle.blocks.specs.declared.words.Words.{Words}

-- 64 bits each
pub record Proper (w : Words) : Type 0 where
  pub high : w.high < 2 ^ 64
  pub low : w.low < 2 ^ 64

-- THE BRIDGE between the two forms. The byte form of two words:
unfoldable pub bytes_of : Words → List ℕ
bytes_of w = low_bytes 8 w.high ++ low_bytes 8 w.low

-- and the word form of sixteen bytes
unfoldable pub words_of : List ℕ → Words
words_of b = record { high = num (take 8 b); low = num (drop 8 b) }
