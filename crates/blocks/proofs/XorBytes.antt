-- Exclusive or of lists of bytes: it commutes, associates, cancels, and zero does nothing; lengths, elements and bounds.
use mathlib.Core.Path.{◌≡◌, refl, sym, ap, ap₂, ◌∙◌}
use mathlib.Core.List.{List, [], ◌∷◌}
use Prim.Native.Nat.{ℕ, zero, suc}
use native.Mathlib.Nat.{suc_inj}
use native.Mathlib.Omega.{arith}
use lib.Bits.{bit_xor, xor_comm, xor_self, xor_zero_r}
use lib.ListN.{length, get_or}
use Rattle.blocks.specs.Bytes.{Bytes, Block, xor_bytes, zeros}
use Rattle.blocks.proofs.Xor.{xor_assoc, xor8}

pub length-xor : (a b : List ℕ) → length a ≡ length b → length (xor_bytes a b) ≡ length a
unfolding xor_bytes
length-xor [] b e = refl
length-xor (x ∷ a) [] e = absurd (omega arith)
length-xor (x ∷ a) (y ∷ b) e = ap suc (length-xor a b (suc_inj e))

pub xor_bytes_comm : (a b : List ℕ) → xor_bytes a b ≡ xor_bytes b a
unfolding xor_bytes
xor_bytes_comm [] [] = refl
xor_bytes_comm [] (y ∷ b) = refl
xor_bytes_comm (x ∷ a) [] = refl
xor_bytes_comm (x ∷ a) (y ∷ b) = ap₂ (λ (h : ℕ) (t : List ℕ). h ∷ t) (xor_comm x y) (xor_bytes_comm a b)

pub xor_bytes_assoc : (a b c : List ℕ) → xor_bytes (xor_bytes a b) c ≡ xor_bytes a (xor_bytes b c)
unfolding xor_bytes
xor_bytes_assoc [] b c = refl
xor_bytes_assoc (x ∷ a) [] c = refl
xor_bytes_assoc (x ∷ a) (y ∷ b) [] = refl
xor_bytes_assoc (x ∷ a) (y ∷ b) (z ∷ c) = ap₂ (λ (h : ℕ) (t : List ℕ). h ∷ t) (xor_assoc x y z) (xor_bytes_assoc a b c)

pub xor_bytes-zeros : (n : ℕ) (a : List ℕ) → length a ≡ n → xor_bytes a (zeros n) ≡ a
unfolding xor_bytes
xor_bytes-zeros n [] e = refl
xor_bytes-zeros zero (x ∷ a) e = absurd (omega arith)
xor_bytes-zeros (suc n) (x ∷ a) e = ap₂ (λ (h : ℕ) (t : List ℕ). h ∷ t) (xor_zero_r x) (xor_bytes-zeros n a (suc_inj e))

pub xor_bytes_self : (a : List ℕ) → xor_bytes a a ≡ zeros (length a)
unfolding xor_bytes
xor_bytes_self [] = refl
xor_bytes_self (x ∷ a) = ap₂ (λ (h : ℕ) (t : List ℕ). h ∷ t) (xor_self x) (xor_bytes_self a)

-- (a ⊕ k) ⊕ k is a
pub xor_bytes_cancel : (a k : List ℕ) → length a ≡ length k → xor_bytes (xor_bytes a k) k ≡ a
xor_bytes_cancel a k e =
    xor_bytes_assoc a k k ∙ ap (xor_bytes a) (xor_bytes_self k) ∙ xor_bytes-zeros (length k) a e

-- so k tells a and b apart no less
pub xor_bytes_injective : (a b k : List ℕ) → length a ≡ length k → length b ≡ length k → xor_bytes a k ≡ xor_bytes b k → a ≡ b
xor_bytes_injective a b k la lb e = sym (xor_bytes_cancel a k la) ∙ ap (λ (z : List ℕ). xor_bytes z k) e ∙ xor_bytes_cancel b k lb

-- (a ⊕ b) ⊕ (c ⊕ d) is (a ⊕ c) ⊕ (b ⊕ d)
pub xor_bytes_swap : (a b c d : List ℕ) → xor_bytes (xor_bytes a b) (xor_bytes c d) ≡ xor_bytes (xor_bytes a c) (xor_bytes b d)
xor_bytes_swap a b c d =
    xor_bytes_assoc a b (xor_bytes c d)
    ∙ ap (xor_bytes a) (sym (xor_bytes_assoc b c d) ∙ ap (λ (x : List ℕ). xor_bytes x d) (xor_bytes_comm b c) ∙ xor_bytes_assoc c b d)
    ∙ sym (xor_bytes_assoc a c (xor_bytes b d))

pub get_or-xor : (a b : List ℕ) (i : ℕ) → length a ≡ length b → get_or (xor_bytes a b) i 0 ≡ bit_xor (get_or a i 0) (get_or b i 0)
unfolding xor_bytes
get_or-xor [] [] i e = refl
get_or-xor [] (y ∷ b) i e = absurd (omega arith)
get_or-xor (x ∷ a) [] i e = absurd (omega arith)
get_or-xor (x ∷ a) (y ∷ b) zero e = refl
get_or-xor (x ∷ a) (y ∷ b) (suc i) e = get_or-xor a b i (suc_inj e)

pub bytes_xor : (a b : List ℕ) → length a ≡ length b → Bytes a → Bytes b → Bytes (xor_bytes a b)
bytes_xor a b e ha hb i = rw (get_or-xor a b i e) (xor8 (get_or a i 0) (get_or b i 0) (ha i) (hb i))

pub block-xor : (a b : List ℕ) → Block a → Block b → Block (xor_bytes a b)
block-xor a b ha hb =
    let e = ha.long ∙ sym hb.long in
    record { long = length-xor a b e ∙ ha.long; bytes = bytes_xor a b e ha.bytes hb.bytes }
