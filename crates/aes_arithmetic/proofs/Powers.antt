-- A product and a square by the bits of a factor; and the powers of each byte of a block.
use mathlib.Core.Path.{◌≡◌, refl, sym, ap, ap₂, ◌∙◌}
use mathlib.Core.List.{List}
use Prim.Native.Nat.{ℕ, zero, suc, ◌+◌, ◌-◌, ◌*◌, ◌/◌, ◌%◌, ◌^◌, ◌≤◌, ◌<◌}
use native.Mathlib.Numerals.{add-one}
use native.Mathlib.Omega.{arith}
use lib.Bits.{bit_xor, xor_zero_r}
use lib.ListN.{get_or}
use lib.Pow.{shr-shr}
use Rattle.blocks.specs.Bytes.{Block}
use Rattle.blocks.specs.Field.{step, steps, times, mul}
use Rattle.blocks.specs.Tab.{tab}
use Rattle.blocks.proofs.Field.{mul-one, times-step}
use Rattle.blocks.proofs.Tab.{get_or-tab, tab_ext, tab_self}
use Rattle.blocks.proofs.Test.{equal-below}
use Rattle.blocks.proofs.Xor.{xor_assoc}
use Rattle.fips197.specs.Gf256.{xtimes, gmul, power}
use Rattle.fips197.proofs.Gf256.{power-add}

-- ---- a product

-- what is there, and the bits of a from i up, times a multiple of b, make the product
abbrev pub Multiplied : ℕ → ℕ → ℕ → ℕ → ℕ → Type 0
Multiplied a b r m i = bit_xor r (times 7 0x1b (8 - i) (a / 2 ^ i) m) ≡ gmul a b

pub multiplied_none : (a b : ℕ) → Multiplied a b 0 b 0
unfolding mul
multiplied_none a b = let d : a / 1 ≡ a = omega arith in ap (λ (n : ℕ). times 7 0x1b 8 n b) d

-- a turn: bit i
pub multiplied_more : (a b r m i t m' : ℕ) → i < 8 → Multiplied a b r m i → t ≡ a / 2 ^ i % 2 * m → m' ≡ xtimes m → Multiplied a b (bit_xor r t) m' (i + 1)
unfolding times
multiplied_more a b r m i t m' h e et em =
    let k : 8 - i ≡ suc (8 - (i + 1)) = omega arith in
    let n : ℕ = 8 - (i + 1) in
    let here : ℕ = a / 2 ^ i % 2 * m in
    ap₂ (λ (x y : ℕ). bit_xor (bit_xor r x) (times 7 0x1b n (a / 2 ^ (i + 1)) y)) et em
    ∙ xor_assoc r here (times 7 0x1b n (a / 2 ^ (i + 1)) (xtimes m))
    ∙ ap (λ (z : ℕ). bit_xor r (bit_xor here z)) (times-step 7 0x1b n (a / 2 ^ (i + 1)) m ∙ ap (λ (z : ℕ). xtimes (times 7 0x1b n z m)) (sym (shr-shr a i 1)))
    ∙ ap (λ (z : ℕ). bit_xor r (times 7 0x1b z (a / 2 ^ i) m)) (sym k) ∙ e

pub multiplied_all : (a b r m i : ℕ) → 8 ≤ i → Multiplied a b r m i → r ≡ gmul a b
unfolding times
multiplied_all a b r m i h e =
    let z : 8 - i ≡ 0 = omega arith in
    sym (xor_zero_r r) ∙ ap (λ (n : ℕ). bit_xor r (times 7 0x1b n (a / 2 ^ i) m)) (sym z) ∙ e

-- ---- a square

-- the bits of a below i, each at twice its place: the square of a₀ + a₁ x + .. is a₀ + a₁ x² + ..
unfoldable pub squared : ℕ → ℕ → ℕ
squared a zero = 0
squared a (suc i) = bit_xor (squared a i) (a / 2 ^ i % 2 * steps 7 0x1b (i + i) 1)

pub record Squared (a r even i : ℕ) : Type 0 where
  pub bits : r ≡ squared a i
  pub power : even ≡ steps 7 0x1b (i + i) 1

pub squared_none : (a : ℕ) → Squared a 0 1 0
unfolding squared steps
squared_none a = record { bits = refl; power = refl }

-- a turn: bit i
pub squared_more : (a r even i t d d' : ℕ) → Squared a r even i → t ≡ a / 2 ^ i % 2 * even → d ≡ xtimes even → d' ≡ xtimes d → Squared a (bit_xor r t) d' (i + 1)
unfolding squared steps
squared_more a r even i t d d' s et ed ed' =
    let k : i + 1 + (i + 1) ≡ suc (suc (i + i)) = omega arith in
    record {
      bits = ap₂ bit_xor s.bits (et ∙ ap (λ (z : ℕ). a / 2 ^ i % 2 * z) s.power) ∙ ap (squared a) (sym (add-one i));
      power = ed' ∙ ap xtimes (ed ∙ ap xtimes s.power) ∙ ap (λ (n : ℕ). steps 7 0x1b n 1) (sym k);
    }

squared_test : (a : ℕ) → a < 256 → squared a 8 ≡ gmul a a
unfolding squared steps step times mul
squared_test = equal-below 256 (λ a. squared a 8) (λ a. gmul a a) tt

pub squared_all : (a r even i : ℕ) → a < 256 → i ≤ 8 → 8 ≤ i → Squared a r even i → r ≡ gmul a a
squared_all a r even i l h g s = let e : i ≡ 8 = omega arith in s.bits ∙ ap (squared a) e ∙ squared_test a l

-- ---- powers, in each byte

abbrev pub powers : List ℕ → ℕ → List ℕ
powers s n = tab 16 (λ i. power (get_or s i 0) n)

module _ (s : List ℕ) (b : Block s) where
  pub powers_one : s ≡ powers s 1
  unfolding power
  powers_one = sym (tab_ext 16 (λ i. power (get_or s i 0) 1) (λ i. get_or s i 0) (λ i h. mul-one 7 0x1b (get_or s i 0) (b.bytes i)) ∙ tab_self 16 s b.long)

  -- the product of two powers
  pub powers_add : (m n : ℕ) {x y r : List ℕ} → x ≡ powers s m → y ≡ powers s n → r ≡ tab 16 (λ i. gmul (get_or x i 0) (get_or y i 0)) → r ≡ powers s (m + n)
  powers_add m n {x} {y} ex ey er =
      er ∙ tab_ext 16 (λ i. gmul (get_or x i 0) (get_or y i 0)) (λ i. power (get_or s i 0) (m + n))
      (λ i h. ap₂ gmul (at m ex i h) (at n ey i h) ∙ power-add (get_or s i 0) m n (b.bytes i))
    where
      at : (n : ℕ) {x : List ℕ} → x ≡ powers s n → (i : ℕ) → i < 16 → get_or x i 0 ≡ power (get_or s i 0) n
      at n e i h = ap (λ (z : List ℕ). get_or z i 0) e ∙ get_or-tab 16 i (λ i. power (get_or s i 0) n) h
