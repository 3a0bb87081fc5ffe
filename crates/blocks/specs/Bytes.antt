-- Lists of bytes, and blocks of 16 bytes (document 01: "A block is 16 bytes").
use Rattle.std.specs.Prelude.{◌≡◌, Bool, true, false, ◌&&◌, List, [], ◌∷◌, ◌++◌, ℕ, zero, suc, ◌<◌, eqb, length, get_or, take, drop, replicate}
use Rattle.std.specs.Int.Bits.{bit_xor}

-- every element is below 256 (past the end `get_or` is 0, which is)
abbrev pub Bytes : List ℕ → Type 0
Bytes a = (i : ℕ) → get_or a i 0 < 256

-- 16 bytes
pub record Block (b : List ℕ) : Type 0 where
  pub long : length b ≡ 16
  pub bytes : Bytes b

-- a list of blocks
pub data Blocks : List (List ℕ) → Type 0 where
  none : Blocks []
  more : {b : List ℕ} {bs : List (List ℕ)} → Block b → Blocks bs → Blocks (b ∷ bs)

abbrev pub zeros : ℕ → List ℕ
zeros n = replicate n 0

-- an output that holds zeros
pub record Fresh (out : List ℕ) : Type 0 where
  pub zero : out ≡ zeros (length out)

-- exclusive or, byte by byte; as long as the shorter
unfoldable pub xor_bytes : List ℕ → List ℕ → List ℕ
xor_bytes [] b = []
xor_bytes (x ∷ a) [] = []
xor_bytes (x ∷ a) (y ∷ b) = bit_xor x y ∷ xor_bytes a b

-- whether two lists are equal
unfoldable pub same : List ℕ → List ℕ → Bool
same [] [] = true
same [] (y ∷ b) = false
same (x ∷ a) [] = false
same (x ∷ a) (y ∷ b) = eqb x y && same a b

-- the first n blocks of a list of bytes
unfoldable pub first_blocks : ℕ → List ℕ → List (List ℕ)
first_blocks zero a = []
first_blocks (suc n) a = take 16 a ∷ first_blocks n (drop 16 a)

-- blocks, one after another
unfoldable pub concat : List (List ℕ) → List ℕ
concat [] = []
concat (b ∷ bs) = b ++ concat bs
