-- What a call answers in C.
use Rattle.std.specs.Prelude.{ℕ, Result, Ok, Err}
-- as the code declares it
use Rattle.aes_blocks.specs.declared.refusal.Refusal.{Refusal}
use Rattle.aes_blocks.specs.declared.refusal.Refusal.TheVariants.{KeyLength, TextLength, OutputTooShort}

abbrev pub number_of : Refusal → ℕ
number_of KeyLength = 1
number_of TextLength = 3
number_of OutputTooShort = 5

-- the number of its refusal, or 0
abbrev pub answered : Result (Unit {0}) Refusal → ℕ
answered (Ok done) = 0
answered (Err refusal) = number_of refusal
