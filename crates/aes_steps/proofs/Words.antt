-- How an engine expands a key: the bytes of a schedule, filled from the front, word after word.
use mathlib.Core.Path.{◌≡◌, refl, sym, ap, ap₂, ◌∙◌}
use mathlib.Core.Bool.{Bool, true, false, cond, ◌&&◌}
use mathlib.Core.Logic.{◌⊎◌, inl, inr}
use mathlib.Core.List.{List, [], ◌∷◌, ◌++◌}
use Prim.Native.Nat.{ℕ, zero, suc, ◌+◌, ◌-◌, ◌*◌, ◌/◌, ◌%◌, ◌≤◌, ◌<◌}
use native.Mathlib.Omega.{arith}
use borrow.Author.Tests.{eq-eqb, ne_eqb, eqb-false}
use lib.Bits.{bit_xor, xor_zero_r}
use lib.Dec.{eqb, ltb}
use lib.ListN.{length, get_or, take, drop, set, length-append, length-drop, get_or-append}
use lib.Seq.{take_at, drop-drop, drop-append-add, sets-eq}
use Rattle.blocks.specs.Bytes.{xor_bytes, zeros}
use Rattle.blocks.specs.Tab.{tab}
use Rattle.blocks.proofs.Tab.{tab_ext, tab_self}
use Rattle.fips197.specs.KeyExpansion.{word, rot_word, sub_word, round_constant, rcon, temp, next_word, words, key_expansion}
use Rattle.fips197.specs.Aes.{KeyLength, short, long, nk_of, nr_of}
use Rattle.fips197.proofs.KeyExpansion.{length-words, round_constants, round_constant_at}
use Rattle.fips197.proofs.Keys.{whole_words}
use Rattle.aes_steps.specs.Schedule.{schedule_of}
use Rattle.aes_steps.specs.Words.{KeyWords, blank, begun}

-- ---- the numbers of words

pub key-words : (key : List ℕ) → KeyLength key → (nk_of key ≡ 4) ⊎ (nk_of key ≡ 8)
key-words key (short e) = inl (rw e refl)
key-words key (long e) = inr (rw e refl)

pub at_word : (key : List ℕ) (i : ℕ) → KeyLength key → nk_of key ≤ i → i < 4 * (nk_of key + 7) → KeyWords (nk_of key) i
at_word key i k l h = record { words = key-words key k; least = l; most = h }

pub below_60 : (nk i : ℕ) → KeyWords nk i → i < 60
below_60 nk i h = by h.words
  where
    by : (nk ≡ 4) ⊎ (nk ≡ 8) → i < 60
    by (inl e) = omega (arith, h.most)
    by (inr e) = omega (arith, h.most)

pub key-some : (key : List ℕ) → KeyLength key → (0 < nk_of key) × (nk_of key ≤ 8)
key-some key k = by (key-words key k)
  where
    by : (nk_of key ≡ 4) ⊎ (nk_of key ≡ 8) → (0 < nk_of key) × (nk_of key ≤ 8)
    by (inl e) = (omega arith, omega arith)
    by (inr e) = (omega arith, omega arith)

-- ---- words one after another

-- the words before word i, and behind them what there was
unfoldable pub expanded : List ℕ → ℕ → List ℕ
expanded key i = words (nk_of key) key (i - nk_of key) ++ drop (i * 4) (blank key)

-- what is behind all words
behind : (nr : ℕ) → (nr ≡ 10) ⊎ (nr ≡ 14) → drop (4 * (nr + 1) * 4) (zeros 240 ++ (nr ∷ [])) ≡ zeros (240 - 16 * (nr + 1)) ++ (nr ∷ [])
behind nr (inl e) = rw e refl
behind nr (inr e) = rw e refl

module _ (key : List ℕ) (k : KeyLength key) where
  pub expanded_none : begun key ≡ expanded key (nk_of key)
  unfolding expanded words
  expanded_none =
      let z : nk_of key - nk_of key ≡ 0 = omega arith in
      ap₂ (λ (a : List ℕ) (n : ℕ). a ++ drop n (blank key)) (sym (ap (words (nk_of key) key) z)) (whole_words key k)

  rounds_are : (nr_of key ≡ 10) ⊎ (nr_of key ≡ 14)
  rounds_are = by (key-words key k)
    where
      by : (nk_of key ≡ 4) ⊎ (nk_of key ≡ 8) → (nr_of key ≡ 10) ⊎ (nr_of key ≡ 14)
      by (inl e) = inl (omega arith)
      by (inr e) = inr (omega arith)

  pub expanded_all : (w : List ℕ) (i : ℕ) → i ≡ 4 * (nr_of key + 1) → w ≡ expanded key i → w ≡ schedule_of key
  unfolding expanded schedule_of key_expansion
  expanded_all w i e g =
      g ∙ ap (expanded key) e
      ∙ ap (λ (z : List ℕ). words (nk_of key) key (4 * (nr_of key + 1) - nk_of key) ++ z) (behind (nr_of key) rounds_are)

  module _ (i : ℕ) (l : nk_of key ≤ i) where
    so_far : length (words (nk_of key) key (i - nk_of key)) ≡ i * 4
    so_far = length-words (nk_of key) key (i - nk_of key) (whole_words key k) ∙ omega arith

    pub length_expanded : i ≤ 60 → length (expanded key i) ≡ 241
    unfolding expanded
    length_expanded h =
        length-append (words (nk_of key) key (i - nk_of key)) (drop (i * 4) (blank key))
        ∙ ap₂ (λ (x y : ℕ). x + y) so_far (length-drop (i * 4) (blank key)) ∙ omega arith

    word_expanded : (j : ℕ) → j < i → word (expanded key i) j ≡ word (words (nk_of key) key (i - nk_of key)) j
    unfolding expanded word
    word_expanded j h =
        let ws = words (nk_of key) key (i - nk_of key) in
        tab_ext 4 (λ m. get_or (ws ++ drop (i * 4) (blank key)) (j * 4 + m) 0) (λ m. get_or ws (j * 4 + m) 0)
        (λ m b. get_or-append ws (drop (i * 4) (blank key)) 0 (j * 4 + m) (omega (arith, so_far)))

    -- a turn of the loop: what the word before becomes, and a store of the next
    pub expanded_more : (w t u r : List ℕ) → 0 < nk_of key → w ≡ expanded key i → t ≡ word w (i - 1) → u ≡ temp (nk_of key) t i
        → r ≡ take (i * 4) w ++ xor_bytes (word w (i - nk_of key)) u ++ drop (i * 4 + 4) w → r ≡ expanded key (i + 1)
    unfolding expanded words next_word
    expanded_more w t u r some ew et eu er =
        let nk = nk_of key in
        let ws = words nk key (i - nk) in
        let is : i ≡ nk + (i - nk) = omega arith in
        let et' : t ≡ word ws (i - 1) = et ∙ ap (λ (z : List ℕ). word z (i - 1)) ew ∙ word_expanded (i - 1) (omega arith) in
        let v : word w (i - nk) ≡ word ws (i - nk) = ap (λ (z : List ℕ). word z (i - nk)) ew ∙ word_expanded (i - nk) (omega arith) in
        let x : xor_bytes (word w (i - nk)) u ≡ next_word nk ws (nk + (i - nk)) =
        ap₂ xor_bytes v (eu ∙ ap (λ (z : List ℕ). temp nk z i) et') ∙ ap (λ (m : ℕ). xor_bytes (word ws (m - nk)) (temp nk (word ws (m - 1)) m)) is in
        let front : take (i * 4) (expanded key i) ≡ ws = take_at ws (drop (i * 4) (blank key)) (i * 4) so_far in
        let rest : drop (i * 4 + 4) (expanded key i) ≡ drop ((i + 1) * 4) (blank key) =
        ap (λ (m : ℕ). drop m (ws ++ drop (i * 4) (blank key))) (let m : i * 4 + 4 ≡ length ws + 4 = omega (arith, so_far) in m)
        ∙ drop-append-add ws (drop (i * 4) (blank key)) 4 ∙ drop-drop 4 (i * 4) (blank key)
        ∙ ap (λ (m : ℕ). drop m (blank key)) (let m : i * 4 + 4 ≡ (i + 1) * 4 = omega arith in m) in
        let one_more : suc (i - nk) ≡ i + 1 - nk = omega arith in
        er ∙ ap (λ (z : List ℕ). take (i * 4) z ++ xor_bytes (word w (i - nk)) u ++ drop (i * 4 + 4) z) ew
        ∙ (λ j. front j ++ x j ++ rest j)
        ∙ ap (λ (m : ℕ). words nk key m ++ drop ((i + 1) * 4) (blank key)) one_more

-- ---- what the word before becomes

module _ (nk i : ℕ) (h : KeyWords nk i) (t : List ℕ) where
  -- where i is a multiple of 4: the S-box at each byte; and turned by one, with a round constant, where it is one of nk
  pub temp_subbed : (s u : List ℕ) → i % 4 ≡ 0 → s ≡ sub_word t → u ≡ cond (eqb (i % nk) 0) (xor_bytes (rot_word s) (rcon (i / nk))) s → u ≡ temp nk t i
  unfolding temp sub_word rot_word
  temp_subbed s u e es eu = eu ∙ ap (λ (z : List ℕ). cond (eqb (i % nk) 0) (xor_bytes (rot_word z) (rcon (i / nk))) z) es ∙ by h.words
    where
      subbed : (b c : Bool) → (b ≡ false → c ≡ true)
          → cond b (xor_bytes (rot_word (sub_word t)) (rcon (i / nk))) (sub_word t) ≡ cond b (xor_bytes (sub_word (rot_word t)) (rcon (i / nk))) (cond c (sub_word t) t)
      subbed true c f = refl
      subbed false c f = ap (λ (z : Bool). cond z (sub_word t) t) (sym (f refl))

      by : (nk ≡ 4) ⊎ (nk ≡ 8)
          → cond (eqb (i % nk) 0) (xor_bytes (rot_word (sub_word t)) (rcon (i / nk))) (sub_word t)
          ≡ cond (eqb (i % nk) 0) (xor_bytes (sub_word (rot_word t)) (rcon (i / nk))) (cond (ltb 6 nk && eqb (i % nk) 4) (sub_word t) t)
      by w = subbed (eqb (i % nk) 0) (ltb 6 nk && eqb (i % nk) 4) (else w)
        where
          else : (nk ≡ 4) ⊎ (nk ≡ 8) → eqb (i % nk) 0 ≡ false → ltb 6 nk && eqb (i % nk) 4 ≡ true
          else (inl q) f = absurd (eqb-false (i % nk) 0 f (ap (λ (m : ℕ). i % m) q ∙ e))
          else (inr q) f =
              let m : (i % 8 ≡ 0) → ⊥ = λ z. eqb-false (i % nk) 0 f (ap (λ (m : ℕ). i % m) q ∙ z) in
              ap (λ (n : ℕ). ltb 6 n && eqb (i % n) 4) q ∙ eq-eqb (i % 8) 4 (eight (i % 8) refl m)
            where
              eight : (r : ℕ) → i % 8 ≡ r → ((i % 8 ≡ 0) → ⊥) → i % 8 ≡ 4
              eight zero z m = absurd (m z)
              eight (suc r) z m = omega arith

  -- where it is not
  pub temp-kept : (m : ℕ) → i % 4 ≡ suc m → t ≡ temp nk t i
  unfolding temp
  temp-kept m e = sym (kept (eqb (i % nk) 0) (eqb (i % nk) 4) (ne_eqb (i % nk) 0 (λ z. no 0 z h.words)) (ne_eqb (i % nk) 4 (λ z. no 1 z h.words)))
    where
      no : (j : ℕ) → i % nk ≡ j * 4 → (nk ≡ 4) ⊎ (nk ≡ 8) → ⊥
      no j z (inl q) = let r : i % 4 ≡ j * 4 = ap (λ (n : ℕ). i % n) (sym q) ∙ z in omega arith
      no j z (inr q) = let r : i % 8 ≡ j * 4 = ap (λ (n : ℕ). i % n) (sym q) ∙ z in omega arith

      kept : (b c : Bool) → b ≡ false → c ≡ false → cond b (xor_bytes (sub_word (rot_word t)) (rcon (i / nk))) (cond (ltb 6 nk && c) (sub_word t) t) ≡ t
      kept b c eb ec = ap₂ (λ (x y : Bool). cond x (xor_bytes (sub_word (rot_word t)) (rcon (i / nk))) (cond (ltb 6 nk && y) (sub_word t) t)) eb ec ∙ neither (ltb 6 nk)
        where
          neither : (b : Bool) → cond (b && false) (sub_word t) t ≡ t
          neither true = refl
          neither false = refl

-- ---- as the code does it

pub word-spelt : (w : List ℕ) (i : ℕ) → get_or w (i * 4) 0 ∷ get_or w (i * 4 + 1) 0 ∷ get_or w (i * 4 + 2) 0 ∷ get_or w (i * 4 + 3) 0 ∷ [] ≡ word w i
unfolding word
word-spelt w i = let e : i * 4 ≡ i * 4 + 0 = omega arith in ap (λ (k : ℕ). get_or w k 0 ∷ get_or w (i * 4 + 1) 0 ∷ get_or w (i * 4 + 2) 0 ∷ get_or w (i * 4 + 3) 0 ∷ []) e

pub word_stored : (w x : List ℕ) (n : ℕ) → n + 4 ≤ length w → length x ≡ 4
    → set (set (set (set w n (get_or x 0 0)) (n + 1) (get_or x 1 0)) (n + 2) (get_or x 2 0)) (n + 3) (get_or x 3 0) ≡ take n w ++ x ++ drop (n + 4) w
word_stored w x n h e =
    let e₁ : n + 1 ≡ suc n = omega arith in
    let e₂ : n + 2 ≡ suc (suc n) = omega arith in
    let e₃ : n + 3 ≡ suc (suc (suc n)) = omega arith in
    (λ i. set (set (set (set w n (get_or x 0 0)) (e₁ i) (get_or x 1 0)) (e₂ i) (get_or x 2 0)) (e₃ i) (get_or x 3 0))
    ∙ sets-eq (tab 4 (λ i. get_or x i 0)) w n h
    ∙ ap (λ (z : List ℕ). take n w ++ z ++ drop (n + 4) w) (tab_self 4 x e)

pub turned_spelt : (s : List ℕ) (j : ℕ) → 1 ≤ j → j ≤ 10
    → bit_xor (get_or s 1 0) (get_or round_constants (j - 1) 0) ∷ get_or s 2 0 ∷ get_or s 3 0 ∷ get_or s 0 0 ∷ [] ≡ xor_bytes (rot_word s) (rcon j)
unfolding xor_bytes rot_word rcon
turned_spelt s j l u =
    let c : get_or round_constants (j - 1) 0 ≡ round_constant j =
    round_constant_at (j - 1) (omega arith) ∙ ap round_constant (let k : j - 1 + 1 ≡ j = omega arith in k) in
    λ i. bit_xor (get_or s 1 0) (c i) ∷ zero_out 2 i ∷ zero_out 3 i ∷ zero_out 0 i ∷ []
  where
    zero_out : (j : ℕ) → get_or s j 0 ≡ bit_xor (get_or s j 0) 0
    zero_out j = sym (xor_zero_r (get_or s j 0))
