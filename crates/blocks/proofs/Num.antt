-- Bytes and their number: one number for each list of a length, lists one after another, exclusive or.
use mathlib.Core.Path.{◌≡◌, refl, sym, ap, ap₂, ◌∙◌, subst}
use mathlib.Core.List.{List, [], ◌∷◌, ◌++◌}
use Prim.Native.Nat.{ℕ, zero, suc, ◌+◌, ◌-◌, ◌*◌, ◌/◌, ◌%◌, ◌^◌, ◌<◌}
use native.Mathlib.Nat.{suc-mul, mul_comm, mul_assoc, add-mul, add_comm, zero-add, zero-mul, mod-lt, mod-eq_of_lt, suc_inj}
use native.Mathlib.Omega.{arith}
use lib.Arith.{digits_lt, digits_div, digits_mod}
use lib.Bits.{bit_xor, xor_block}
use lib.Dec.{lit<}
use lib.ListN.{length, get_or, length-append}
use lib.Pow.{pow-add, mod-pow-add}
use Rattle.blocks.specs.Bytes.{Bytes, Block, xor_bytes}
use Rattle.blocks.specs.Num.{num, low_bytes}
use Rattle.blocks.proofs.XorBytes.{length-xor}

-- one byte more
pub wide : (n : ℕ) → 2 ^ (suc n * 8) ≡ 2 ^ (n * 8) * 256
wide n = ap (λ (z : ℕ). 2 ^ z) (suc-mul n 8) ∙ pow-add 2 (n * 8) 8

pub num-lt : (a : List ℕ) → Bytes a → num a < 2 ^ (length a * 8)
unfolding num
num-lt [] h = lit< tt
num-lt (x ∷ a) h =
    rw (wide (length a), mul_comm (2 ^ (length a * 8)) 256) (digits_lt (h 0) (num-lt a (λ i. h (suc i))))

pub block-lt : (a : List ℕ) → Block a → num a < 2 ^ 128
block-lt a h = subst (λ (n : ℕ). num a < 2 ^ (n * 8)) h.long (num-lt a h.bytes)

-- ---- from lists to numbers, and back

pub num_injective : (a b : List ℕ) → length a ≡ length b → Bytes a → Bytes b → num a ≡ num b → a ≡ b
unfolding num
num_injective [] [] e ha hb h = refl
num_injective [] (y ∷ b) e ha hb h = absurd (omega arith)
num_injective (x ∷ a) [] e ha hb h = absurd (omega arith)
num_injective (x ∷ a) (y ∷ b) e ha hb h =
    let f : length a ≡ length b = suc_inj e in
    let w = 2 ^ (length a * 8) in
    let la : num a < w = num-lt a (λ i. ha (suc i)) in
    let lb : num b < w = subst (λ (n : ℕ). num b < 2 ^ (n * 8)) (sym f) (num-lt b (λ i. hb (suc i))) in
    let k : x * w + num a ≡ y * w + num b = h ∙ ap (λ (n : ℕ). y * 2 ^ (n * 8) + num b) (sym f) in
    ap₂ (λ (z : ℕ) (t : List ℕ). z ∷ t) (sym (digits_div x la) ∙ ap (λ (z : ℕ). z / w) k ∙ digits_div y lb)
    (num_injective a b f (λ i. ha (suc i)) (λ i. hb (suc i)) (sym (digits_mod x la) ∙ ap (λ (z : ℕ). z % w) k ∙ digits_mod y lb))

pub same_block : {a b : List ℕ} → Block a → Block b → num a ≡ num b → a ≡ b
same_block {a} {b} ha hb h = num_injective a b (ha.long ∙ sym hb.long) ha.bytes hb.bytes h

pub length-low_bytes : (n v : ℕ) → length (low_bytes n v) ≡ n
unfolding low_bytes
length-low_bytes zero v = refl
length-low_bytes (suc n) v = ap suc (length-low_bytes n v)

pub bytes_low_bytes : (n v : ℕ) → Bytes (low_bytes n v)
unfolding low_bytes
bytes_low_bytes zero v i = lit< tt
bytes_low_bytes (suc n) v zero = mod-lt (v / 2 ^ (n * 8)) (lit< tt)
bytes_low_bytes (suc n) v (suc i) = bytes_low_bytes n v i

pub block-low_bytes : (v : ℕ) → Block (low_bytes 16 v)
block-low_bytes v = record { long = length-low_bytes 16 v; bytes = bytes_low_bytes 16 v }

pub num-low_bytes : (n v : ℕ) → num (low_bytes n v) ≡ v % 2 ^ (n * 8)
unfolding num low_bytes
num-low_bytes zero v = let e : 0 ≡ v % 1 = omega arith in e
num-low_bytes (suc n) v =
    ap₂ (λ (m z : ℕ). v / 2 ^ (n * 8) % 256 * 2 ^ (m * 8) + z) (length-low_bytes n v) (num-low_bytes n v)
    ∙ sym (ap (λ (z : ℕ). v % 2 ^ z) (suc-mul n 8 ∙ add_comm (n * 8) 8) ∙ mod-pow-add v 8 (n * 8))

pub num-low_bytes_lem : (v : ℕ) → v < 2 ^ 128 → num (low_bytes 16 v) ≡ v
num-low_bytes_lem v h = num-low_bytes 16 v ∙ mod-eq_of_lt h

-- the i-th of a number's n low bytes, the highest first
pub get_or-low_bytes : (n v i : ℕ) → i < n → get_or (low_bytes n v) i 0 ≡ v / 2 ^ ((n - suc i) * 8) % 256
unfolding low_bytes
get_or-low_bytes zero v i h = absurd (omega arith)
get_or-low_bytes (suc n) v zero h = let e : n ≡ suc n - 1 = omega arith in ap (λ (k : ℕ). v / 2 ^ (k * 8) % 256) e
get_or-low_bytes (suc n) v (suc i) h =
    let l : i < n = omega arith in
    let e : n - suc i ≡ suc n - suc (suc i) = omega arith in
    get_or-low_bytes n v i l ∙ ap (λ (k : ℕ). v / 2 ^ (k * 8) % 256) e

-- ---- one list after another

regroup : (x u v n m : ℕ) → x * (u * v) + (n * v + m) ≡ (x * u + n) * v + m
regroup x u v n m =
    let e : (x * u + n) * v ≡ x * u * v + n * v = add-mul (x * u) n v in
    let f : x * (u * v) ≡ x * u * v = sym (mul_assoc x u v) in
    omega arith

pub num-append : (a b : List ℕ) → num (a ++ b) ≡ num a * 2 ^ (length b * 8) + num b
unfolding num
num-append [] b = sym (ap (λ (z : ℕ). z + num b) (zero-mul (2 ^ (length b * 8))) ∙ zero-add (num b))
num-append (x ∷ a) b =
    let e : (length a + length b) * 8 ≡ length a * 8 + length b * 8 = add-mul (length a) (length b) 8 in
    ap₂ (λ (n z : ℕ). x * 2 ^ (n * 8) + z) (length-append a b) (num-append a b)
    ∙ ap (λ (w : ℕ). x * w + (num a * 2 ^ (length b * 8) + num b)) (ap (λ (z : ℕ). 2 ^ z) e ∙ pow-add 2 (length a * 8) (length b * 8))
    ∙ regroup x (2 ^ (length a * 8)) (2 ^ (length b * 8)) (num a) (num b)

-- ---- exclusive or

pub num-xor_bytes : (a b : List ℕ) → length a ≡ length b → Bytes a → Bytes b → num (xor_bytes a b) ≡ bit_xor (num a) (num b)
unfolding num xor_bytes
num-xor_bytes [] [] e ha hb = refl
num-xor_bytes [] (y ∷ b) e ha hb = absurd (omega arith)
num-xor_bytes (x ∷ a) [] e ha hb = absurd (omega arith)
num-xor_bytes (x ∷ a) (y ∷ b) e ha hb =
    let f : length a ≡ length b = suc_inj e in
    ap₂ (λ (n r : ℕ). bit_xor x y * 2 ^ (n * 8) + r) (length-xor a b f) (num-xor_bytes a b f (λ i. ha (suc i)) (λ i. hb (suc i)))
    ∙ sym (xor_block (length a * 8) x y (num a) (num b) (num-lt a (λ i. ha (suc i)))
    (subst (λ (n : ℕ). num b < 2 ^ (n * 8)) (sym f) (num-lt b (λ i. hb (suc i)))))
    ∙ ap (λ (n : ℕ). bit_xor (x * 2 ^ (length a * 8) + num a) (y * 2 ^ (n * 8) + num b)) f

pub num-xor : (a b : List ℕ) → Block a → Block b → num (xor_bytes a b) ≡ bit_xor (num a) (num b)
num-xor a b ha hb = num-xor_bytes a b (ha.long ∙ sym hb.long) ha.bytes hb.bytes
