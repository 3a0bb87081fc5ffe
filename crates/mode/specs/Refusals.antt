-- The refusals as the code names them, and what rows come to.
use Rattle.std.specs.Prelude.{ℕ, eqb, cond, Result, Ok, Err}
use Rattle.mode.specs.Table.{Answer, refused, given}
pub use Rattle.mode.specs.declared.refusal.Refusal.{Refusal}
pub use Rattle.mode.specs.declared.refusal.Refusal.TheVariants.{KeyLength, IvLength, Length, BeyondLimit, OutputTooShort, TagDiffers, Padding, NotNeighbours, NotWhole, ZeroMask, RecordLength}

-- document 01's number of each; and 24, of the functions for C
abbrev pub number_of : Refusal → ℕ
number_of KeyLength = 1
number_of IvLength = 2
number_of Length = 3
number_of BeyondLimit = 4
number_of OutputTooShort = 5
number_of TagDiffers = 6
number_of Padding = 7
number_of NotNeighbours = 8
number_of NotWhole = 9
number_of ZeroMask = 10
number_of RecordLength = 24

-- the refusal of a number: of 1 to 10, and the table has no other (`InTable` of Demand 1), the one that has it
unfoldable pub refusal_of : ℕ → Refusal
refusal_of n =
    cond (eqb n 1) KeyLength
    (cond (eqb n 2) IvLength
    (cond (eqb n 3) Length
    (cond (eqb n 4) BeyondLimit
    (cond (eqb n 5) OutputTooShort
    (cond (eqb n 6) TagDiffers
    (cond (eqb n 7) Padding
    (cond (eqb n 8) NotNeighbours
    (cond (eqb n 9) NotWhole
    (cond (eqb n 10) ZeroMask RecordLength)))))))))

-- an answer as the code gives it: what is made of what is given, or the refusal
unfoldable pub answered : {A B : Type 0} → (A → B) → Answer A → Result B Refusal
answered f (refused n) = Err (refusal_of n)
answered f (given a) = Ok (f a)

-- nothing, or the refusal: what rows come to of which n is the first (0 where none holds)
unfoldable pub passed : ℕ → Result (Unit {0}) Refusal
passed n = cond (eqb n 0) (Ok tt) (Err (refusal_of n))

-- the number of a refusal that the code gives; 0 stands for none
unfoldable pub number_in : {A : Type 0} → Result A Refusal → ℕ
number_in (Ok x) = 0
number_in (Err r) = number_of r
