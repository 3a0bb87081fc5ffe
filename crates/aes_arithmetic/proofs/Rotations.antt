-- The affine step as sums of rotations, held to its bits at every byte.
use mathlib.Core.Path.{◌≡◌}
use Prim.Native.Nat.{ℕ, ◌<◌}
use lib.Bits.{bit_xor}
use Rattle.std.specs.Int.{rotate_left, w8}
use Rattle.blocks.proofs.Test.{equal-below}
use Rattle.fips197.specs.Sbox.{affine, inv_affine}

abbrev pub rotated : ℕ → ℕ → ℕ
rotated x n = rotate_left w8 x n

abbrev pub five_turns : ℕ → ℕ
five_turns x = bit_xor (bit_xor (bit_xor (bit_xor (bit_xor x (rotated x 1)) (rotated x 2)) (rotated x 3)) (rotated x 4)) 0x63

abbrev pub three_turns : ℕ → ℕ
three_turns x = bit_xor (bit_xor (bit_xor (rotated x 1) (rotated x 3)) (rotated x 6)) 0x05

pub affine_turns : (x : ℕ) → x < 256 → five_turns x ≡ affine x
unfolding affine
affine_turns = equal-below 256 five_turns affine tt

pub inv_affine_turns : (x : ℕ) → x < 256 → three_turns x ≡ inv_affine x
unfolding inv_affine
inv_affine_turns = equal-below 256 three_turns inv_affine tt
