-- The message schedule as a window of sixteen words that moves.
use Rattle.std.proofs.Common.{◌≡◌, ℕ, zero, suc, ◌+◌, ◌-◌, List, [], ◌∷◌, ◌++◌, length, get_or, drop, sym, refl, ap, ◌∙◌, ap₂, append_assoc, arith, length-append, length-drop, get_or-append-add}
use lib.Bits.{bit_xor}
use Rattle.blocks.proofs.Tab.{tab_self}
use Rattle.fips180.specs.Sha1.{rotl, next_word, schedule}

-- the rule of a word, from those 3, 8, 14 and 16 places before it
unfoldable pub mixed : ℕ → ℕ → ℕ → ℕ → ℕ
mixed x y z u = rotl 1 (bit_xor (bit_xor (bit_xor x y) z) u)

-- the word after the window, and the window with it
unfoldable pub follows : List ℕ → ℕ
follows v = mixed (get_or v 13 0) (get_or v 8 0) (get_or v 2 0) (get_or v 0 0)

unfoldable pub slide : List ℕ → List ℕ
slide v = drop 1 v ++ (follows v ∷ [])

-- the first n words, and the sixteen after them
unfoldable pub stream : ℕ → List ℕ → List ℕ
stream zero v = []
stream (suc n) v = get_or v 0 0 ∷ stream n (slide v)

unfoldable pub window : ℕ → List ℕ → List ℕ
window zero v = v
window (suc n) v = window n (slide v)

length_slide : (v : List ℕ) → length v ≡ 16 → length (slide v) ≡ 16
unfolding slide
length_slide v e = length-append (drop 1 v) (follows v ∷ []) ∙ ap (λ (k : ℕ). k + 1) (length-drop 1 v) ∙ omega arith

length_window : (n : ℕ) (v : List ℕ) → length v ≡ 16 → length (window n v) ≡ 16
unfolding window
length_window zero v e = e
length_window (suc n) v e = length_window n (slide v) (length_slide v e)

length_stream : (n : ℕ) (v : List ℕ) → length (stream n v) ≡ n
unfolding stream
length_stream zero v = refl
length_stream (suc n) v = ap suc (length_stream n (slide v))

stream_more : (n : ℕ) (v : List ℕ) → stream (suc n) v ≡ stream n v ++ (get_or (window n v) 0 0 ∷ [])
unfolding stream window
stream_more zero v = refl
stream_more (suc n) v = ap (λ (x : List ℕ). get_or v 0 0 ∷ x) (stream_more n (slide v))

window_more : (n : ℕ) (v : List ℕ) → window (suc n) v ≡ slide (window n v)
unfolding window
window_more zero v = refl
window_more (suc n) v = window_more n (slide v)

-- the window's first word goes, and the word after it comes
shifted : (v : List ℕ) → length v ≡ 16 → v ++ (follows v ∷ []) ≡ get_or v 0 0 ∷ slide v
unfolding slide
shifted [] e = absurd (omega arith)
shifted (x ∷ v) e = refl

-- the word after n words and the window
next_is : (s v : List ℕ) (n : ℕ) → length s ≡ n → next_word (s ++ v) (16 + n) ≡ follows v
unfolding next_word follows mixed
next_is s v n e =
    λ i. rotl 1 (bit_xor (bit_xor (bit_xor (at 13 3 (omega arith) i) (at 8 8 (omega arith) i)) (at 2 14 (omega arith) i)) (at 0 16 (omega arith) i))
  where
    at : (k b : ℕ) → length s + k ≡ 16 + n - b → get_or (s ++ v) (16 + n - b) 0 ≡ get_or v k 0
    at k b h = ap (λ (j : ℕ). get_or (s ++ v) j 0) (sym h) ∙ get_or-append-add s v k 0

pub scheduled : (m : List ℕ) (n : ℕ) → length m ≡ 16 → schedule m n ≡ stream n m ++ window n m
unfolding schedule stream window
scheduled m zero e = refl
scheduled m (suc n) e =
    let s = stream n m in
    let v = window n m in
    ap (λ (x : List ℕ). x ++ (next_word x (16 + n) ∷ [])) (scheduled m n e)
    ∙ ap (λ (x : ℕ). (s ++ v) ++ (x ∷ [])) (next_is s v n (length_stream n m))
    ∙ append_assoc s v (follows v ∷ [])
    ∙ ap (λ (x : List ℕ). s ++ x) (shifted v (length_window n m e))
    ∙ sym (append_assoc s (get_or v 0 0 ∷ []) (slide v))
    ∙ ap₂ (λ (x y : List ℕ). x ++ y) (sym (stream_more n m)) (sym (window_more n m))

-- n words and k more
stream_add : (n k : ℕ) (v : List ℕ) → stream (n + k) v ≡ stream n v ++ stream k (window n v)
unfolding stream window
stream_add zero k v = ap (λ (j : ℕ). stream j v) (let e : 0 + k ≡ k = omega arith in e)
stream_add (suc n) k v =
    ap (λ (j : ℕ). stream j v) (let e : suc n + k ≡ suc (n + k) = omega arith in e)
    ∙ ap (λ (x : List ℕ). get_or v 0 0 ∷ x) (stream_add n k (slide v))

-- sixteen words are the window
whole : (v : List ℕ) → length v ≡ 16 → stream 16 v ≡ v
unfolding stream slide
whole v e = ap (stream 16) (sym (tab_self 16 v e)) ∙ tab_self 16 v e

pub all_words : (m : List ℕ) → length m ≡ 16 → schedule m 64 ≡ stream 80 m
all_words m e =
    scheduled m 64 e
    ∙ ap (λ (x : List ℕ). stream 64 m ++ x) (sym (whole (window 64 m) (length_window 64 m e)))
    ∙ sym (stream_add 64 16 m)
