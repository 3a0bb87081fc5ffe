-- A loop that writes to the front of a list, in parts of a width: after i parts, these and the rest of what there was.
use mathlib.Core.Path.{◌≡◌, refl, sym, ap, ap₂, ◌∙◌}
use mathlib.Core.Bool.{Bool, true, false}
use mathlib.Core.List.{List, ◌++◌, append_assoc, append-nil}
use Prim.Native.Nat.{ℕ, zero, suc, ◌+◌, ◌*◌, ◌≤◌, ◌<◌}
use native.Mathlib.Omega.{arith}
use native.Mathlib.Numerals.{add-one}
use lib.ListN.{length, get_or, take, drop, length-append, length-drop}
use lib.Seq.{take_at, drop_at, drop-drop}
use lib.Dec.{eqb}
use borrow.Author.Tests.{eqb-true, eqb-false}
use Rattle.blocks.specs.Num.{low_bytes}
use Rattle.blocks.specs.Words.{bytes_of}
use Rattle.blocks.proofs.Bridge.{block-bytes_of}
use Rattle.groups.specs.Group.{block_at, block_of, in_turn, in_front}

module _ (w : ℕ) (b : ℕ → List ℕ) where
  pub length-in_turn : (n : ℕ) → ((j : ℕ) → j < n → length (b j) ≡ w) → length (in_turn n b) ≡ n * w
  unfolding in_turn
  length-in_turn zero h = omega arith
  length-in_turn (suc n) h =
      length-append (in_turn n b) (b n) ∙ ap₂ (λ (x y : ℕ). x + y) (length-in_turn n (λ j l. h j (omega (arith, l)))) (h n (omega arith)) ∙ omega arith

  -- after i parts
  abbrev pub Front : ℕ → List ℕ → List ℕ → Type 0
  Front i old now = now ≡ in_turn i b ++ drop (i * w) old

  pub front_begins : (old : List ℕ) → Front 0 old old
  unfolding in_turn
  front_begins old = ap (λ (k : ℕ). drop k old) (let e : 0 ≡ 0 * w = omega arith in e)

  module _ (i : ℕ) (old now : List ℕ) (parts : (j : ℕ) → j < i → length (b j) ≡ w) (is : Front i old now) where
    pub front_rest : drop (i * w) now ≡ drop (i * w) old
    front_rest = ap (drop (i * w)) is ∙ drop_at (in_turn i b) (drop (i * w) old) (i * w) (length-in_turn i parts)

    pub front_long : i * w ≤ length old → length now ≡ length old
    front_long h = ap length is ∙ length-append (in_turn i b) (drop (i * w) old) ∙ omega (arith, length-in_turn i parts, length-drop (i * w) old)

    pub front_turn : (y new : List ℕ) → y ≡ b i → new ≡ take (i * w) now ++ y ++ drop (i * w + w) now → Front (i + 1) old new
    unfolding in_turn
    front_turn y new ey en =
        en
        ∙ ap₂ (λ (p q : List ℕ). p ++ y ++ q) (ap (take (i * w)) is ∙ take_at (in_turn i b) (drop (i * w) old) (i * w) (length-in_turn i parts))
        (sym (drop-drop w (i * w) now) ∙ ap (drop w) front_rest ∙ drop-drop w (i * w) old)
        ∙ ap₂ (λ (z : List ℕ) (k : ℕ). in_turn i b ++ z ++ drop k old) ey (let e : i * w + w ≡ (i + 1) * w = omega arith in e)
        ∙ ap (λ (k : ℕ). in_turn k b ++ drop ((i + 1) * w) old) (sym (add-one i))

  -- at the end
  pub front_ends : (i n : ℕ) (old now : List ℕ) → i ≤ n → n ≤ i → Front i old now → Front n old now
  front_ends i n old now h l is = is ∙ ap (λ (k : ℕ). in_turn k b ++ drop (k * w) old) (let e : i ≡ n = omega (arith, h, l) in e)

-- ---- blocks one after another

pub turn_as : (n : ℕ) (b b' : ℕ → List ℕ) → ((i : ℕ) → i < n → b i ≡ b' i) → in_turn n b ≡ in_turn n b'
unfolding in_turn
turn_as zero b b' e = refl
turn_as (suc n) b b' e = ap₂ (λ (x y : List ℕ). x ++ y) (turn_as n b b' (λ i l. e i (omega (arith, l)))) (e n (omega arith))

-- the first one, and those behind it
pub turn_first : (n : ℕ) (b : ℕ → List ℕ) → b 0 ++ in_turn n (λ i. b (suc i)) ≡ in_turn (suc n) b
unfolding in_turn
turn_first zero b = append-nil (b 0)
turn_first (suc n) b =
    sym (append_assoc (b 0) (in_turn n (λ i. b (suc i))) (b (suc n))) ∙ ap (λ (x : List ℕ). x ++ b (suc n)) (turn_first n b)

-- n of them, and m more
pub turn_add : (n m : ℕ) (b : ℕ → List ℕ) → in_turn (n + m) b ≡ in_turn n b ++ in_turn m (λ j. b (n + j))
unfolding in_turn
turn_add n zero b = ap (λ (k : ℕ). in_turn k b) (let e : n + 0 ≡ n = omega arith in e) ∙ sym (append-nil (in_turn n b))
turn_add n (suc m) b =
    ap (λ (k : ℕ). in_turn k b) (let e : n + suc m ≡ suc (n + m) = omega arith in e)
    ∙ ap (λ (x : List ℕ). x ++ b (n + m)) (turn_add n m b) ∙ append_assoc (in_turn n b) (in_turn m (λ j. b (n + j))) (b (n + m))

-- block i of what stands behind n blocks
pub block_behind : (n i : ℕ) (bytes : List ℕ) → block_of (drop (n * 16) bytes) i ≡ block_of bytes (n + i)
unfolding block_of
block_behind n i bytes =
    ap (take 16) (drop-drop (i * 16) (n * 16) bytes ∙ ap (λ (k : ℕ). drop k bytes) (let e : n * 16 + i * 16 ≡ (n + i) * 16 = omega arith in e))

-- words of eight bytes, two to a block
pub two_words : (g : List ℕ) (n : ℕ) → in_turn (n * 2) (λ k. low_bytes 8 (get_or g k 0)) ≡ in_turn n (block_at g)
unfolding in_turn block_at bytes_of
two_words g zero = refl
two_words g (suc n) =
    ap (λ (k : ℕ). in_turn k (λ k. low_bytes 8 (get_or g k 0))) (let e : suc n * 2 ≡ suc (suc (n * 2)) = omega arith in e)
    ∙ append_assoc (in_turn (n * 2) (λ k. low_bytes 8 (get_or g k 0))) (low_bytes 8 (get_or g (n * 2) 0)) (low_bytes 8 (get_or g (suc (n * 2)) 0))
    ∙ ap₂ (λ (x y : List ℕ). x ++ (low_bytes 8 (get_or g (n * 2) 0) ++ y)) (two_words g n)
    (ap (λ (k : ℕ). low_bytes 8 (get_or g k 0)) (sym (add-one (n * 2))))

-- ---- blocks read back

pub length-block_at : (g : List ℕ) (i : ℕ) → length (block_at g i) ≡ 16
unfolding block_at
length-block_at g i = (block-bytes_of _).long

block-in_turn : (n : ℕ) (b : ℕ → List ℕ) (rest : List ℕ) → ((j : ℕ) → j < n → length (b j) ≡ 16) → (i : ℕ) → i < n → block_of (in_turn n b ++ rest) i ≡ b i
unfolding in_turn block_of
block-in_turn zero b rest long i h = absurd (omega (arith, h))
block-in_turn (suc n) b rest long i h =
    ap (λ (x : List ℕ). block_of x i) (append_assoc (in_turn n b) (b n) rest)
    ∙ by (eqb i n) refl (λ l. block-in_turn n b (b n ++ rest) (λ j l. long j (omega (arith, l))) i l)
  where
    by : (t : Bool) → eqb i n ≡ t → (i < n → block_of (in_turn n b ++ (b n ++ rest)) i ≡ b i) → block_of (in_turn n b ++ (b n ++ rest)) i ≡ b i
    by true e before =
        let is : i ≡ n = eqb-true i n e in
        ap (λ (k : ℕ). take 16 (drop (k * 16) (in_turn n b ++ (b n ++ rest)))) is
        ∙ ap (take 16) (drop_at (in_turn n b) (b n ++ rest) (n * 16) (length-in_turn 16 b n (λ j l. long j (omega (arith, l)))))
        ∙ take_at (b n) rest 16 (long n (omega arith)) ∙ ap b (sym is)
    by false e before = let d : i ≡ n → ⊥ = eqb-false i n e in before (omega (arith, h, d))

-- what was written to the front
pub front-blocks : (n : ℕ) (b : ℕ → List ℕ) (old new : List ℕ) → ((j : ℕ) → j < n → length (b j) ≡ 16) → new ≡ in_front n b old
    → (i : ℕ) → i < n → block_of new i ≡ b i
front-blocks n b old new long is i h = ap (λ (x : List ℕ). block_of x i) is ∙ block-in_turn n b (drop (n * 16) old) long i h
