-- A run record as 24 bytes: the first block and the block count as 32-bit numbers, most significant byte first, then the
-- pre-authenticator's bytes.
use Rattle.std.specs.Prelude.{List, [], ◌∷◌, ◌++◌, ℕ, zero, suc, ◌+◌, ◌*◌, ◌/◌, ◌%◌, length, get_or, take, drop}
use Rattle.blocks.specs.Words.{bytes_of, words_of}
use Rattle.mode.specs.declared.RunRecord.{RunRecord}

-- a number as four bytes
unfoldable pub number_bytes : ℕ → List ℕ
number_bytes n = n / 16777216 % 256 ∷ n / 65536 % 256 ∷ n / 256 % 256 ∷ n % 256 ∷ []

-- the number of four bytes
abbrev pub number_of : ℕ → ℕ → ℕ → ℕ → ℕ
number_of a b c d = ((a * 256 + b) * 256 + c) * 256 + d

unfoldable pub encoded : RunRecord → List ℕ
encoded r = number_bytes r.first ++ number_bytes r.count ++ bytes_of r.preauthenticator

unfoldable pub decoded : List ℕ → RunRecord
decoded b =
    record {
      first = number_of (get_or b 0 0) (get_or b 1 0) (get_or b 2 0) (get_or b 3 0);
      count = number_of (get_or b 4 0) (get_or b 5 0) (get_or b 6 0) (get_or b 7 0);
      preauthenticator = words_of (take 16 (drop 8 b));
    }

-- the first n records of a list
unfoldable pub first_records : ℕ → List ℕ → List RunRecord
first_records zero b = []
first_records (suc n) b = decoded (take 24 b) ∷ first_records n (drop 24 b)

-- a list of records: their bytes, one after another
unfoldable pub records_of : List ℕ → List RunRecord
records_of b = first_records (length b / 24) b
