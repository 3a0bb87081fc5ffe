-- The 32 bits of half a word moved apart, as the code does it.
use mathlib.Core.Path.{◌≡◌}
use Prim.Native.Nat.{ℕ, ◌*◌, ◌%◌, ◌^◌, ◌<◌}
use lib.Bits.{bit_xor, bit_and, xor_mod}
use Rattle.blocks.proofs.Test.{equal-below}
use Rattle.blocks.proofs.Xor.{mask_xor}
use Rattle.blocks.proofs.Linear.{Linear, linear_same, linear_xor, linear_of, places, basis}
use Rattle.gf128.specs.Spread.{spread}
use Rattle.gf128.proofs.Squares.{spread_linear}

-- x, and x k places up, where the mask has ones
abbrev pub move : ℕ → ℕ → ℕ → ℕ
move k m x = bit_and (bit_xor x (x * 2 ^ k % 2 ^ 64)) m

move_linear : (k m : ℕ) → Linear (move k m)
move_linear k m =
    linear_of (λ x. bit_and x m) (λ x. bit_xor x (x * 2 ^ k % 2 ^ 64)) (λ x y. mask_xor x y m)
    (linear_xor (λ x. x) (λ x. x * 2 ^ k % 2 ^ 64) linear_same
    (linear_of (λ x. x % 2 ^ 64) (λ x. x * 2 ^ k) (λ x y. xor_mod x y 64) (places k)))

-- halves, quarters, and so on
abbrev pub apart : ℕ → ℕ
apart x =
    move 1 0x5555555555555555 (move 2 0x3333333333333333 (move 4 0x0f0f0f0f0f0f0f0f (move 8 0x00ff00ff00ff00ff (move 16 0x0000ffff0000ffff x))))

apart_linear : Linear apart
apart_linear =
    linear_of (move 1 0x5555555555555555) (λ x. move 2 0x3333333333333333 (move 4 0x0f0f0f0f0f0f0f0f (move 8 0x00ff00ff00ff00ff (move 16 0x0000ffff0000ffff x))))
    (move_linear 1 0x5555555555555555)
    (linear_of (move 2 0x3333333333333333) (λ x. move 4 0x0f0f0f0f0f0f0f0f (move 8 0x00ff00ff00ff00ff (move 16 0x0000ffff0000ffff x)))
    (move_linear 2 0x3333333333333333)
    (linear_of (move 4 0x0f0f0f0f0f0f0f0f) (λ x. move 8 0x00ff00ff00ff00ff (move 16 0x0000ffff0000ffff x)) (move_linear 4 0x0f0f0f0f0f0f0f0f)
    (linear_of (move 8 0x00ff00ff00ff00ff) (move 16 0x0000ffff0000ffff) (move_linear 8 0x00ff00ff00ff00ff) (move_linear 16 0x0000ffff0000ffff))))

pub spread-apart : (x : ℕ) → x < 2 ^ 32 → apart x ≡ spread 32 x
unfolding spread
spread-apart = basis 32 apart (spread 32) apart_linear (spread_linear 32) (equal-below 32 (λ i. apart (2 ^ i)) (λ i. spread 32 (2 ^ i)) tt)
