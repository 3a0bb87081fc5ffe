-- The first four bytes of a state after SubBytes.
use mathlib.Core.Path.{ap}
use mathlib.Core.List.{List, [], ◌∷◌}
use Prim.Native.Nat.{ℕ}
use lib.ListN.{get_or}
use Rattle.fips197.specs.State.{sub_bytes}
use Rattle.fips197.specs.KeyExpansion.{sub_word}
use Rattle.aes_arithmetic.proofs.sbox.ArithmeticSBox.sub_word.Goals as goal

pub returns : goal.returns
unfolding sub_bytes sub_word
returns c = ap (λ (s : List ℕ). get_or s 0 0 ∷ get_or s 1 0 ∷ get_or s 2 0 ∷ get_or s 3 0 ∷ []) c.sub_bytes-s.ensures
