-- A cipher applied to each block of a text by itself: what a call answers, and what it leaves in an output of `room` bytes.
use Rattle.std.specs.Prelude.{cond, not, List, ◌++◌, ℕ, ◌-◌, ◌/◌, ◌%◌, eqb, ltb, length}
use Rattle.blocks.specs.Bytes.{zeros}
use Rattle.groups.specs.Group.{block_of, in_turn}
use Rattle.fips197.specs.Aes.{not_key}

-- f of each block, one after another
abbrev pub each : (List ℕ → List ℕ) → List ℕ → List ℕ
each f text = in_turn (length text / 16) (λ i. f (block_of text i))

-- 1: the key is neither 16 bytes nor 32. 3: the text is no multiple of 16 bytes. 5: the output is shorter than the text. The first of these that holds is
-- the answer, and 0 where none does.
unfoldable pub refusal : List ℕ → List ℕ → ℕ → ℕ
refusal key text room =
    cond (not_key key) 1 (cond (not (eqb (length text % 16) 0)) 3 (cond (ltb room (length text)) 5 0))

-- the whole output: the cipher's blocks and zeros beyond them, or all zeros beside a refusal
unfoldable pub output : (List ℕ → List ℕ → List ℕ) → List ℕ → List ℕ → ℕ → List ℕ
output cipher key text room = cond (eqb (refusal key text room) 0) (each (cipher key) text ++ zeros (room - length text)) (zeros room)
