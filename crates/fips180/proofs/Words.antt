-- Bytes and words.
use Rattle.std.proofs.Common.{◌≡◌, ℕ, ◌+◌, ◌*◌, ◌≤◌, List, [], ◌∷◌, length, get_or, take, drop, sym, ap, ◌∙◌, arith, drop-drop}
use Rattle.blocks.specs.Num.{num, low_bytes}
use Rattle.blocks.proofs.Tab.{tab-part}
use Rattle.fips180.specs.declared.Hash.{Hash}
use Rattle.fips180.specs.Sha1.{digest_of, word}

pub digest_spelt : (a b c d e : List ℕ) (h : Hash) → a ≡ low_bytes 4 h.a → b ≡ low_bytes 4 h.b → c ≡ low_bytes 4 h.c → d ≡ low_bytes 4 h.d → e ≡ low_bytes 4 h.e
    → get_or a 0 0 ∷ get_or a 1 0 ∷ get_or a 2 0 ∷ get_or a 3 0 ∷ get_or b 0 0 ∷ get_or b 1 0 ∷ get_or b 2 0 ∷ get_or b 3 0 ∷ get_or c 0 0 ∷ get_or c 1 0 ∷ get_or c 2 0 ∷ get_or c 3 0
    ∷ get_or d 0 0 ∷ get_or d 1 0 ∷ get_or d 2 0 ∷ get_or d 3 0 ∷ get_or e 0 0 ∷ get_or e 1 0 ∷ get_or e 2 0 ∷ get_or e 3 0 ∷ [] ≡ digest_of h
unfolding digest_of low_bytes
digest_spelt a b c d e h p q r s t =
    λ i. get_or (p i) 0 0 ∷ get_or (p i) 1 0 ∷ get_or (p i) 2 0 ∷ get_or (p i) 3 0 ∷ get_or (q i) 0 0 ∷ get_or (q i) 1 0 ∷ get_or (q i) 2 0 ∷ get_or (q i) 3 0
    ∷ get_or (r i) 0 0 ∷ get_or (r i) 1 0 ∷ get_or (r i) 2 0 ∷ get_or (r i) 3 0 ∷ get_or (s i) 0 0 ∷ get_or (s i) 1 0 ∷ get_or (s i) 2 0 ∷ get_or (s i) 3 0
    ∷ get_or (t i) 0 0 ∷ get_or (t i) 1 0 ∷ get_or (t i) 2 0 ∷ get_or (t i) 3 0 ∷ []

-- four bytes read at an offset
pub word_read : (s : List ℕ) (at i : ℕ) → at + (i * 4 + 4) ≤ length s
    → num (get_or s (at + i * 4) 0 ∷ get_or s (at + i * 4 + 1) 0 ∷ get_or s (at + i * 4 + 2) 0 ∷ get_or s (at + i * 4 + 3) 0 ∷ []) ≡ word (drop at s) i
unfolding word
word_read s at i h =
    let p : ℕ = at + i * 4 in
    let e : p ≡ p + 0 = omega arith in
    ap (λ (k : ℕ). num (get_or s k 0 ∷ get_or s (p + 1) 0 ∷ get_or s (p + 2) 0 ∷ get_or s (p + 3) 0 ∷ [])) e
    ∙ ap num (tab-part 4 p s (omega arith) ∙ ap (take 4) (sym (drop-drop (i * 4) at s)))
