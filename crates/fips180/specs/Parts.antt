-- What the code works on at a time: four words of the message schedule, and the last one or two blocks of the padded text.
use Rattle.std.specs.Prelude.{ℕ, ◌+◌, ◌-◌, ◌*◌, ◌≤◌, List, ◌∷◌, ◌++◌, length, drop}
use Rattle.blocks.specs.Bytes.{zeros}
use Rattle.blocks.specs.Num.{low_bytes}
use Rattle.fips180.specs.Sha1.{longest_text, schedule}

-- the four words after sixteen
unfoldable pub next_four : List ℕ → List ℕ
next_four m = drop 16 (schedule m 4)

-- the text from byte n on, its padding up to byte `end`, and zeros up to 128
unfoldable pub last_part : List ℕ → ℕ → ℕ → List ℕ
last_part text n end =
    drop n text ++ ((0x80 ∷ zeros (end - (length text - n) - 9)) ++ (low_bytes 8 (length text * 8) ++ zeros (128 - end)))

-- what is left of the text from byte n on, and at least nine bytes of padding, end at byte `end`, which is within 128
pub record Ends (text : List ℕ) (n end : ℕ) : Type 0 where
  pub short : length text ≤ longest_text
  pub from : n ≤ length text
  pub fits : length text - n + 9 ≤ end
  pub within : end ≤ 128
