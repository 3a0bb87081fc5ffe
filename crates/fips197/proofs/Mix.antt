-- Steps on a column that say each byte alike, from itself down the column: a byte becomes f of itself plus g, h and k of those below.
-- One such step after another is a third, whose factors are those of the product; so MixColumns and its inverse undo each other.
use mathlib.Core.Path.{◌≡◌, sym, ap, ap₂, ◌∙◌}
use mathlib.Core.Bool.{Bool}
use Prim.Native.Nat.{ℕ, ◌^◌, ◌<◌}
use lib.Bits.{bit_xor, xor_comm, xor_zero_r}
use lib.Dec.{T, eqb}
use Rattle.blocks.specs.Field.{step, times, mul}
use Rattle.blocks.proofs.Test.{all}
use Rattle.blocks.proofs.Xor.{xor_assoc, xor_swap, xor8}
use Rattle.blocks.proofs.Linear.{Linear, linear_same, linear_none, linear_xor, linear_of, by-test}
use Rattle.fips197.specs.Gf256.{xtimes, gmul}
use Rattle.fips197.specs.State.{sum4, mix, inv_mix}
use Rattle.fips197.proofs.Gf256.{xtimes_linear, gmul_linear}

-- ---- sums of four

rot : (x y z w : ℕ) → sum4 x y z w ≡ sum4 w x y z
unfolding sum4
rot x y z w = ap (bit_xor (bit_xor x y)) (xor_comm z w) ∙ xor_swap x y w z ∙ ap (λ (k : ℕ). bit_xor k (bit_xor y z)) (xor_comm x w)

pub sum4-lt : (a b c d : ℕ) → a < 256 → b < 256 → c < 256 → d < 256 → sum4 a b c d < 256
unfolding sum4
sum4-lt a b c d ha hb hc hd = xor8 (bit_xor a b) (bit_xor c d) (xor8 a b ha hb) (xor8 c d hc hd)

sum4-add : (a b c d a' b' c' d' : ℕ) → sum4 (bit_xor a a') (bit_xor b b') (bit_xor c c') (bit_xor d d') ≡ bit_xor (sum4 a b c d) (sum4 a' b' c' d')
unfolding sum4
sum4-add a b c d a' b' c' d' =
    ap₂ bit_xor (xor_swap a a' b b') (xor_swap c c' d d') ∙ xor_swap (bit_xor a b) (bit_xor a' b') (bit_xor c d) (bit_xor c' d')

-- the sum of four sums is the sum of the four sums across
across : (a₀ a₁ a₂ a₃ b₀ b₁ b₂ b₃ c₀ c₁ c₂ c₃ d₀ d₁ d₂ d₃ : ℕ)
    → sum4 (sum4 a₀ a₁ a₂ a₃) (sum4 b₀ b₁ b₂ b₃) (sum4 c₀ c₁ c₂ c₃) (sum4 d₀ d₁ d₂ d₃)
    ≡ sum4 (sum4 a₀ b₀ c₀ d₀) (sum4 a₁ b₁ c₁ d₁) (sum4 a₂ b₂ c₂ d₂) (sum4 a₃ b₃ c₃ d₃)
unfolding sum4
across a₀ a₁ a₂ a₃ b₀ b₁ b₂ b₃ c₀ c₁ c₂ c₃ d₀ d₁ d₂ d₃ =
    sum4-add (bit_xor a₀ a₁) (bit_xor b₀ b₁) (bit_xor c₀ c₁) (bit_xor d₀ d₁) (bit_xor a₂ a₃) (bit_xor b₂ b₃) (bit_xor c₂ c₃) (bit_xor d₂ d₃)
    ∙ ap₂ bit_xor (sum4-add a₀ b₀ c₀ d₀ a₁ b₁ c₁ d₁) (sum4-add a₂ b₂ c₂ d₂ a₃ b₃ c₃ d₃)

through : (f : ℕ → ℕ) → Linear f → (a b c d : ℕ) → f (sum4 a b c d) ≡ sum4 (f a) (f b) (f c) (f d)
unfolding sum4
through f h a b c d = h (bit_xor a b) (bit_xor c d) ∙ ap₂ bit_xor (h a b) (h c d)

sum4-one : (x : ℕ) → sum4 x 0 0 0 ≡ x
unfolding sum4
sum4-one x = xor_zero_r (bit_xor x 0) ∙ xor_zero_r x

-- ---- one step after another

-- a linear function
record Factor : Type 0 where
  at : ℕ → ℕ
  linear : Linear at

-- one after another, and a sum of four
abbrev after : Factor → Factor → Factor
after f g = record { at = λ x. f.at (g.at x); linear = linear_of f.at g.at f.linear g.linear }

abbrev plus : Factor → Factor → Factor
plus f g = record { at = λ x. bit_xor (f.at x) (g.at x); linear = linear_xor f.at g.at f.linear g.linear }

abbrev plus4 : Factor → Factor → Factor → Factor → Factor
plus4 f g h k = plus (plus f g) (plus h k)

-- the factors of a step
record Factors : Type 0 where
  f : Factor
  g : Factor
  h : Factor
  k : Factor

abbrev row : Factors → ℕ → ℕ → ℕ → ℕ → ℕ
row m a b c d = sum4 (m.f.at a) (m.g.at b) (m.h.at c) (m.k.at d)

-- the factors of m after n
abbrev product : Factors → Factors → Factors
product m n = record {
  f = plus4 (after m.f n.f) (after m.g n.k) (after m.h n.h) (after m.k n.g);
  g = plus4 (after m.f n.g) (after m.g n.f) (after m.h n.k) (after m.k n.h);
  h = plus4 (after m.f n.h) (after m.g n.g) (after m.h n.f) (after m.k n.k);
  k = plus4 (after m.f n.k) (after m.g n.h) (after m.h n.g) (after m.k n.f);
}

row_row : (m n : Factors) (a b c d : ℕ) → row m (row n a b c d) (row n b c d a) (row n c d a b) (row n d a b c) ≡ row (product m n) a b c d
unfolding sum4
row_row m n a b c d =
    let f = m.f.at in
    let g = m.g.at in
    let h = m.h.at in
    let k = m.k.at in
    let p = n.f.at in
    let q = n.g.at in
    let r = n.h.at in
    let s = n.k.at in
    (λ i. sum4 (f (sum4 (p a) (q b) (r c) (s d))) (g (rot (p b) (q c) (r d) (s a) i))
    (h ((rot (p c) (q d) (r a) (s b) ∙ rot (s b) (p c) (q d) (r a)) i))
    (k ((rot (p d) (q a) (r b) (s c) ∙ rot (s c) (p d) (q a) (r b) ∙ rot (r b) (s c) (p d) (q a)) i)))
    ∙ (λ i. sum4 (through f m.f.linear (p a) (q b) (r c) (s d) i) (through g m.g.linear (s a) (p b) (q c) (r d) i)
    (through h m.h.linear (r a) (s b) (p c) (q d) i) (through k m.k.linear (q a) (r b) (s c) (p d) i))
    ∙ across (f (p a)) (f (q b)) (f (r c)) (f (s d)) (g (s a)) (g (p b)) (g (q c)) (g (r d))
    (h (r a)) (h (s b)) (h (p c)) (h (q d)) (k (q a)) (k (r b)) (k (s c)) (k (p d))

-- two factors agree at 1, 2, 4, .., 128; so at every byte
abbrev agree : Factor → Factor → Bool
agree f g = all (λ i. eqb (f.at (2 ^ i)) (g.at (2 ^ i))) 8

agreed : (f g : Factor) → T (agree f g) → (x : ℕ) → x < 256 → f.at x ≡ g.at x
agreed f g t = by-test f.at g.at f.linear g.linear t

-- the step m after n is the step p, where the product's factors agree with p's
module _ (m n p : Factors) where
  abbrev Agree : Type 0
  Agree = T (agree (product m n).f p.f) × T (agree (product m n).g p.g) × T (agree (product m n).h p.h) × T (agree (product m n).k p.k)

  compose : Agree → (a b c d : ℕ) → a < 256 → b < 256 → c < 256 → d < 256
      → row m (row n a b c d) (row n b c d a) (row n c d a b) (row n d a b c) ≡ row p a b c d
  compose t a b c d ha hb hc hd =
      let q = product m n in
      row_row m n a b c d
      ∙ (λ i. sum4 (agreed q.f p.f t.0 a ha i) (agreed q.g p.g t.1 b hb i) (agreed q.h p.h t.2 c hc i) (agreed q.k p.k t.3 d hd i))

-- ---- the steps of AES

abbrev by : ℕ → Factor
by c = record { at = gmul c; linear = gmul_linear c }

abbrev same : Factor
same = record { at = λ x. x; linear = linear_same }

abbrev none : Factor
none = record { at = λ x. 0; linear = linear_none }

abbrev forward : Factors
forward = record { f = by 0x02; g = by 0x03; h = same; k = same }

abbrev backward : Factors
backward = record { f = by 0x0e; g = by 0x0b; h = by 0x0d; k = by 0x09 }

abbrev identity : Factors
identity = record { f = same; g = none; h = none; k = none }

pub inv_mix-mix : (a b c d : ℕ) → a < 256 → b < 256 → c < 256 → d < 256 → inv_mix (mix a b c d) (mix b c d a) (mix c d a b) (mix d a b c) ≡ a
unfolding step times mul sum4 mix inv_mix
inv_mix-mix a b c d ha hb hc hd = compose backward forward identity (tt, tt, tt, tt) a b c d ha hb hc hd ∙ sum4-one a

pub mix-inv_mix : (a b c d : ℕ) → a < 256 → b < 256 → c < 256 → d < 256 → mix (inv_mix a b c d) (inv_mix b c d a) (inv_mix c d a b) (inv_mix d a b c) ≡ a
unfolding step times mul sum4 mix inv_mix
mix-inv_mix a b c d ha hb hc hd = compose forward backward identity (tt, tt, tt, tt) a b c d ha hb hc hd ∙ sum4-one a

-- ---- as the code does it

double : Factor
double = record { at = xtimes; linear = xtimes_linear }

gmul_two : (x : ℕ) → x < 256 → gmul 0x02 x ≡ xtimes x
unfolding step times mul double
gmul_two = agreed (by 0x02) double tt

gmul_three : (x : ℕ) → x < 256 → gmul 0x03 x ≡ bit_xor (xtimes x) x
unfolding step times mul double
gmul_three = agreed (by 0x03) (plus double same) tt

-- 02 a + 03 b + c + d is 02 (a + b) + b + c + d
pub mix_once : (a b c d : ℕ) → a < 256 → b < 256 → bit_xor (xtimes (bit_xor a b)) (bit_xor b (bit_xor c d)) ≡ mix a b c d
unfolding mix sum4
mix_once a b c d ha hb =
    let x = xtimes a in
    let y = xtimes b in
    ap (λ (z : ℕ). bit_xor z (bit_xor b (bit_xor c d))) (xtimes_linear a b) ∙ xor_assoc x y (bit_xor b (bit_xor c d)) ∙ ap (bit_xor x) (sym (xor_assoc y b (bit_xor c d)))
    ∙ sym (xor_assoc x (bit_xor y b) (bit_xor c d))
    ∙ ap₂ (λ (u v : ℕ). bit_xor (bit_xor u v) (bit_xor c d)) (sym (gmul_two a ha)) (sym (gmul_three b hb))

-- 05 a + 04 c is a + 04 (a + c)
pub even_once : (a c : ℕ) → a < 256 → c < 256 → bit_xor a (xtimes (xtimes (bit_xor a c))) ≡ bit_xor (gmul 0x05 a) (gmul 0x04 c)
unfolding step times mul double
even_once a c ha hc =
    ap (bit_xor a) (ap xtimes (xtimes_linear a c) ∙ xtimes_linear (xtimes a) (xtimes c)) ∙ sym (xor_assoc a (xtimes (xtimes a)) (xtimes (xtimes c)))
    ∙ ap₂ bit_xor (sym (agreed (by 0x05) (plus same (after double double)) tt a ha)) (sym (agreed (by 0x04) (after double double) tt c hc))

evened : Factors
evened = record { f = by 0x05; g = none; h = by 0x04; k = none }

even_row : (a b c d : ℕ) → bit_xor (gmul 0x05 a) (gmul 0x04 c) ≡ row evened a b c d
unfolding evened sum4
even_row a b c d = ap₂ bit_xor (sym (xor_zero_r (gmul 0x05 a))) (sym (xor_zero_r (gmul 0x04 c)))

-- the inverse of MixColumns is that, and then MixColumns
pub inv_mix-by : (a b c d p q r s : ℕ) → a < 256 → b < 256 → c < 256 → d < 256
    → p ≡ bit_xor (gmul 0x05 a) (gmul 0x04 c) → q ≡ bit_xor (gmul 0x05 b) (gmul 0x04 d) → r ≡ bit_xor (gmul 0x05 c) (gmul 0x04 a) → s ≡ bit_xor (gmul 0x05 d) (gmul 0x04 b)
    → mix p q r s ≡ inv_mix a b c d
unfolding step times mul mix inv_mix evened
inv_mix-by a b c d p q r s ha hb hc hd ep eq er es =
    (λ i. mix ((ep ∙ even_row a b c d) i) ((eq ∙ even_row b c d a) i) ((er ∙ even_row c d a b) i) ((es ∙ even_row d a b c) i))
    ∙ compose forward evened backward (tt, tt, tt, tt) a b c d ha hb hc hd
