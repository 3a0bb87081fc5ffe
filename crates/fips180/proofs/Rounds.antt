-- Rounds four at a time, while the window moves by four words.
use Rattle.std.proofs.Common.{◌≡◌, ℕ, suc, ◌+◌, List, [], ◌∷◌, ◌++◌, length, get_or, sym, ap, ◌∙◌, arith}
use Rattle.blocks.specs.Tab.{tab}
use Rattle.blocks.proofs.Tab.{tab_self}
use Rattle.fips180.specs.declared.Hash.{Hash}
use Rattle.fips180.specs.Sha1.{round, rounds, next_word, schedule}
use Rattle.fips180.specs.Parts.{next_four}
use Rattle.fips180.proofs.Schedule.{mixed, stream, slide, follows}

-- ---- four rounds, one after another

pub four_in_turn : (t : ℕ) (w : List ℕ) (s r₁ r₂ r₃ r₄ : Hash) → length w ≡ 4
    → r₁ ≡ round t (get_or w 0 0) s → r₂ ≡ round (t + 1) (get_or w 1 0) r₁ → r₃ ≡ round (t + 2) (get_or w 2 0) r₂ → r₄ ≡ round (t + 3) (get_or w 3 0) r₃ → r₄ ≡ rounds t w s
unfolding rounds
four_in_turn t w s r₁ r₂ r₃ r₄ l e₁ e₂ e₃ e₄ =
    let k₁ : t + 1 ≡ suc t = omega arith in
    let k₂ : t + 2 ≡ suc (suc t) = omega arith in
    let k₃ : t + 3 ≡ suc (suc (suc t)) = omega arith in
    let p : r₄ ≡ round (t + 3) (get_or w 3 0) (round (t + 2) (get_or w 2 0) (round (t + 1) (get_or w 1 0) (round t (get_or w 0 0) s))) = cc in
    p
    ∙ (λ i. round (k₃ i) (get_or w 3 0) (round (k₂ i) (get_or w 2 0) (round (k₁ i) (get_or w 1 0) (round t (get_or w 0 0) s))))
    ∙ ap (λ (x : List ℕ). rounds t x s) (tab_self 4 w l)

-- ---- the window, as four times four words

pub record Quads (a b c d : List ℕ) : Type 0 where
  pub la : length a ≡ 4
  pub lb : length b ≡ 4
  pub lc : length c ≡ 4
  pub ld : length d ≡ 4

module _ {a b c d : List ℕ} (k : Quads a b c d) where
  pub four_spelt :
      mixed (get_or d 1 0) (get_or c 0 0) (get_or a 2 0) (get_or a 0 0)
      ∷ mixed (get_or d 2 0) (get_or c 1 0) (get_or a 3 0) (get_or a 1 0)
      ∷ mixed (get_or d 3 0) (get_or c 2 0) (get_or b 0 0) (get_or a 2 0)
      ∷ mixed (mixed (get_or d 1 0) (get_or c 0 0) (get_or a 2 0) (get_or a 0 0)) (get_or c 3 0) (get_or b 1 0) (get_or a 3 0)
      ∷ []
      ≡ next_four (a ++ (b ++ (c ++ d)))
  unfolding next_four schedule next_word mixed
  four_spelt = λ i. next_four (tab_self 4 a k.la i ++ (tab_self 4 b k.lb i ++ (tab_self 4 c k.lc i ++ tab_self 4 d k.ld i)))

  quads_next : {e : List ℕ} → e ≡ next_four (a ++ (b ++ (c ++ d))) → Quads b c d e
  quads_next h = record { la = k.lb; lb = k.lc; lc = k.ld; ld = ap length (h ∙ sym four_spelt) }

  -- the code's four words
  pub next_made : (p q r s : ℕ) → p ≡ mixed (get_or d 1 0) (get_or c 0 0) (get_or a 2 0) (get_or a 0 0) → q ≡ mixed (get_or d 2 0) (get_or c 1 0) (get_or a 3 0) (get_or a 1 0)
      → r ≡ mixed (get_or d 3 0) (get_or c 2 0) (get_or b 0 0) (get_or a 2 0) → s ≡ mixed p (get_or c 3 0) (get_or b 1 0) (get_or a 3 0)
      → p ∷ q ∷ r ∷ s ∷ [] ≡ next_four (a ++ (b ++ (c ++ d)))
  next_made p q r s ep eq er es =
      (λ i. ep i ∷ eq i ∷ er i ∷ (es ∙ ap (λ (x : ℕ). mixed x (get_or c 3 0) (get_or b 1 0) (get_or a 3 0)) ep) i ∷ []) ∙ four_spelt

  moved : (t n : ℕ) (s : Hash) → rounds t (stream (suc (suc (suc (suc n)))) (a ++ (b ++ (c ++ d)))) s
      ≡ rounds (suc (suc (suc (suc t)))) (stream n (b ++ (c ++ (d ++ next_four (a ++ (b ++ (c ++ d))))))) (rounds t a s)
  unfolding rounds stream slide follows next_four schedule next_word mixed
  moved t n s =
      (λ i. rounds t (stream (suc (suc (suc (suc n)))) (back a k.la i ++ (back b k.lb i ++ (back c k.lc i ++ back d k.ld i)))) s)
      ∙ (λ i. rounds (suc (suc (suc (suc t)))) (stream n (tab_self 4 b k.lb i ++ (tab_self 4 c k.lc i ++ (tab_self 4 d k.ld i
      ++ next_four (tab_self 4 a k.la i ++ (tab_self 4 b k.lb i ++ (tab_self 4 c k.lc i ++ tab_self 4 d k.ld i))))))) (rounds t (tab_self 4 a k.la i) s))
    where
      back : (w : List ℕ) → length w ≡ 4 → w ≡ tab 4 (λ j. get_or w j 0)
      back w l = sym (tab_self 4 w l)

  -- four rounds, and the words from the window that comes next
  pub turn : (t n : ℕ) {e : List ℕ} (s : Hash) {s' z : Hash} → e ≡ next_four (a ++ (b ++ (c ++ d))) → s' ≡ rounds t a s
      → (Quads b c d e → z ≡ rounds (suc (suc (suc (suc t)))) (stream n (b ++ (c ++ (d ++ e)))) s')
      → z ≡ rounds t (stream (suc (suc (suc (suc n)))) (a ++ (b ++ (c ++ d)))) s
  turn t n s he hs go =
      go (quads_next he)
      ∙ (λ i. rounds (suc (suc (suc (suc t)))) (stream n (b ++ (c ++ (d ++ he i)))) (hs i))
      ∙ sym (moved t n s)
