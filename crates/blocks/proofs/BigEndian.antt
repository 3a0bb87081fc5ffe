-- Numbers as std has them, the highest byte first, are the numbers of their bytes.
use mathlib.Core.Path.{◌≡◌, ap, ap₂, ◌∙◌}
use mathlib.Core.List.{List, [], ◌∷◌, ◌++◌, append-nil}
use Prim.Native.Nat.{ℕ, ◌/◌}
use native.Mathlib.Omega.{arith}
use mir.Syntax.{w32, w64}
use Rattle.std.specs.Int.{from_be_bytes, to_be_bytes}
use lib.ListN.{length, drop}
use lib.Seq.{take_at, drop_at}
use borrow.Rule.Slice.PartMut.{put_mid}
use Rattle.blocks.specs.Bytes.{zeros}
use Rattle.blocks.specs.Num.{num, low_bytes}
use Rattle.blocks.specs.Words.{Words, bytes_of}
use Rattle.blocks.proofs.Num.{length-low_bytes}

pub num-from : (a b c d e f g h n : ℕ) → n ≡ from_be_bytes w64 (a ∷ b ∷ c ∷ d ∷ e ∷ f ∷ g ∷ h ∷ []) → n ≡ num (a ∷ b ∷ c ∷ d ∷ e ∷ f ∷ g ∷ h ∷ [])
unfolding num
num-from a b c d e f g h n q = omega (arith, q)

pub low_bytes_to : (n : ℕ) → to_be_bytes w64 n ≡ low_bytes 8 n
unfolding low_bytes
low_bytes_to n = let e : n / 1 ≡ n = omega arith in rw e

-- the bytes of a word, written to the two halves of sixteen bytes
pub words_to : (w : Words) (x y : List ℕ) → x ≡ to_be_bytes w64 w.high → y ≡ to_be_bytes w64 w.low → put_mid 8 8 (x ++ zeros 8) y ≡ bytes_of w
unfolding bytes_of
words_to w x y ex ey = ap₂ (λ (p q : List ℕ). put_mid 8 8 (p ++ zeros 8) q) (ex ∙ low_bytes_to w.high) (ey ∙ low_bytes_to w.low) ∙ parts (low_bytes 8 w.high) (low_bytes 8 w.low) (length-low_bytes 8 w.high) (length-low_bytes 8 w.low)
  where
    parts : (p q : List ℕ) → length p ≡ 8 → length q ≡ 8 → put_mid 8 8 (p ++ zeros 8) q ≡ p ++ q
    parts p q lp lq =
        ap₂ (λ (s t : List ℕ). s ++ (q ++ drop 8 t)) (take_at p (zeros 8) 8 lp) (drop_at p (zeros 8) 8 lp) ∙ ap (λ (s : List ℕ). p ++ s) (append-nil q)

-- ---- the same of 32 bits

pub num-from_32 : (a b c d n : ℕ) → n ≡ from_be_bytes w32 (a ∷ b ∷ c ∷ d ∷ []) → n ≡ num (a ∷ b ∷ c ∷ d ∷ [])
unfolding num
num-from_32 a b c d n q = omega (arith, q)

pub low_bytes_to_32 : (n : ℕ) → to_be_bytes w32 n ≡ low_bytes 4 n
unfolding low_bytes
low_bytes_to_32 n = let e : n / 1 ≡ n = omega arith in rw e
