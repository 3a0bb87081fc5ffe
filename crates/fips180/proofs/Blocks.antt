-- Blocks one after another, and the padding behind the text.
use Rattle.std.proofs.Common.{◌≡◌, ℕ, zero, suc, ◌+◌, ◌-◌, ◌*◌, ◌/◌, ◌%◌, ◌<◌, ◌≤◌, List, ◌∷◌, ◌++◌, length, take, drop, set, sym, refl, ap, ◌∙◌, ap₂, append_assoc, arith, length-append, length-drop, drop-drop, take_at}
use lib.Seq.{take-append-le, drop-append-le, drop-append-add}
use Rattle.blocks.specs.Bytes.{zeros}
use Rattle.blocks.specs.Num.{num, low_bytes}
use Rattle.blocks.proofs.Tab.{tab_ext}
use Rattle.blocks.proofs.Zeros.{length-zeros, drop-zeros, set-zeros, zeros-append}
use Rattle.fips180.specs.declared.Hash.{Hash}
use Rattle.fips180.specs.Sha1.{zero_bytes, padding, padded, word, parse, compress, hash, initial, digest_of, sha1}
use Rattle.fips180.specs.Parts.{last_part, Ends}

-- ---- the loop: what is left, from the present hash value

pub hash-none : (n : ℕ) (s : List ℕ) (h : Hash) → hash (n - 0) (drop (0 * 64) s) h ≡ hash n s h
hash-none n s h =
    let e : n - 0 ≡ n = omega arith in
    let g : 0 * 64 ≡ 0 = omega arith in
    λ i. hash (e i) (drop (g i) s) h

pub hash_turn : (n i : ℕ) (s : List ℕ) (r next z : Hash) → i < n → next ≡ compress (parse (drop (i * 64) s)) r
    → hash (n - i) (drop (i * 64) s) r ≡ z → hash (n - (i + 1)) (drop ((i + 1) * 64) s) next ≡ z
unfolding hash
hash_turn n i s r next z h e g =
    let k : n - i ≡ suc (n - (i + 1)) = omega arith in
    let d : drop ((i + 1) * 64) s ≡ drop 64 (drop (i * 64) s) =
    ap (λ (m : ℕ). drop m s) (let m : (i + 1) * 64 ≡ i * 64 + 64 = omega arith in m) ∙ sym (drop-drop 64 (i * 64) s) in
    (λ j. hash (n - (i + 1)) (d j) (e j)) ∙ sym (ap (λ (m : ℕ). hash m (drop (i * 64) s) r) k) ∙ g

pub hash-done : (n i : ℕ) (s : List ℕ) (r z : Hash) → i ≤ n → n ≤ i → hash (n - i) (drop (i * 64) s) r ≡ z → r ≡ z
unfolding hash
hash-done n i s r z h l g =
    let k : n - i ≡ 0 = omega arith in
    sym (ap (λ (m : ℕ). hash m (drop (i * 64) s) r) k) ∙ g

-- ---- the same blocks in a longer list

word-front : (a z : List ℕ) → 64 ≤ length a → (i : ℕ) → i < 16 → word (a ++ z) i ≡ word a i
unfolding word
word-front a z h i l =
    ap num (ap (take 4) (drop-append-le (i * 4) a z (omega arith)) ∙ take-append-le 4 (drop (i * 4) a) z (omega (arith, length-drop (i * 4) a)))

parse-front : (a z : List ℕ) → 64 ≤ length a → parse (a ++ z) ≡ parse a
unfolding parse
parse-front a z h = tab_ext 16 (word (a ++ z)) (word a) (word-front a z h)

pub hash-front : (n : ℕ) (a z : List ℕ) (h : Hash) → n * 64 ≤ length a → hash n (a ++ z) h ≡ hash n a h
unfolding hash
hash-front zero a z h l = refl
hash-front (suc n) a z h l =
    (λ i. hash n (drop-append-le 64 a z (omega arith) i) (compress (parse-front a z (omega arith) i) h))
    ∙ hash-front n (drop 64 a) z (compress (parse a) h) (omega (arith, length-drop 64 a))

-- n blocks and m more
pub hash_more : (n m : ℕ) (b : List ℕ) (h : Hash) → hash (n + m) b h ≡ hash m (drop (n * 64) b) (hash n b h)
unfolding hash
hash_more zero m b h =
    let e : 0 + m ≡ m = omega arith in
    let g : 0 ≡ 0 * 64 = omega arith in
    λ i. hash (e i) (drop (g i) b) h
hash_more (suc n) m b h =
    let e : suc n + m ≡ suc (n + m) = omega arith in
    let g : 64 + n * 64 ≡ suc n * 64 = omega arith in
    ap (λ (k : ℕ). hash k b h) e ∙ hash_more n m (drop 64 b) (compress (parse b) h)
    ∙ ap (λ (x : List ℕ). hash m x (hash n (drop 64 b) (compress (parse b) h))) (drop-drop (n * 64) 64 b ∙ ap (λ (k : ℕ). drop k b) g)

-- ---- the padding behind the rest of the text

module _ (text : List ℕ) (n end : ℕ) (h : Ends text n end) where
  -- how many zeros come before the length, and after it
  before_length : ℕ
  before_length = end - (length text - n) - 9

  front : List ℕ
  front = drop n text ++ (0x80 ∷ zeros before_length)

  length_front : length front ≡ end - 8
  unfolding front before_length
  length_front =
      length-append (drop n text) (0x80 ∷ zeros before_length)
      ∙ ap₂ (λ (x y : ℕ). x + suc y) (length-drop n text) (length-zeros before_length)
      ∙ omega (arith, h.fits)

  -- the byte 80 behind the text, in zeros
  marked : (r₀ : List ℕ) → r₀ ≡ drop n text ++ zeros (n + 128 - length text) → set r₀ (length text - n) 0x80 ≡ front ++ zeros (136 - end)
  unfolding front before_length
  marked r₀ e =
      let l : length (drop n text) ≡ length text - n = length-drop n text in
      let g : n + 128 - length text - 1 ≡ before_length + (136 - end) = omega (arith, h.fits, h.from, h.within) in
      (λ i. set (e i) (sym l i) 0x80)
      ∙ set-zeros (drop n text) (n + 128 - length text) 0x80 (omega (arith, h.fits, h.from, h.within))
      ∙ ap (λ (z : List ℕ). drop n text ++ (0x80 ∷ z)) (ap zeros g ∙ sym (zeros-append before_length (136 - end)))
      ∙ sym (append_assoc (drop n text) (0x80 ∷ zeros before_length) (zeros (136 - end)))

  pub last_made : (r₀ r : List ℕ) → r₀ ≡ drop n text ++ zeros (n + 128 - length text)
      → r ≡ take (end - 8) (set r₀ (length text - n) 0x80) ++ low_bytes 8 (length text * 8) ++ drop (end - 8 + 8) (set r₀ (length text - n) 0x80)
      → r ≡ last_part text n end
  unfolding front before_length last_part
  last_made r₀ r e₀ er =
      let m : set r₀ (length text - n) 0x80 ≡ front ++ zeros (136 - end) = marked r₀ e₀ in
      let k : end - 8 + 8 ≡ length front + 8 = omega (arith, length_front, h.fits) in
      let q : 136 - end - 8 ≡ 128 - end = omega arith in
      let b : List ℕ = low_bytes 8 (length text * 8) in
      er
      ∙ (λ i. take (end - 8) (m i) ++ b ++ drop (k i) (m i))
      ∙ ap₂ (λ (x y : List ℕ). x ++ b ++ y) (take_at front (zeros (136 - end)) (end - 8) length_front)
      (drop-append-add front (zeros (136 - end)) 8 ∙ drop-zeros 8 (136 - end) ∙ ap zeros q)
      ∙ append_assoc front b (zeros (128 - end))
      ∙ append_assoc (drop n text) (0x80 ∷ zeros before_length) (b ++ zeros (128 - end))

-- ---- the whole text

pub length-padding : (n : ℕ) → length (padding n) ≡ zero_bytes n + 9
unfolding padding low_bytes
length-padding n =
    length-append (0x80 ∷ zeros (zero_bytes n)) (low_bytes 8 (n * 8))
    ∙ ap (λ (k : ℕ). suc k + 8) (length-zeros (zero_bytes n)) ∙ omega arith

padded-front_of : (text : List ℕ) (n : ℕ) (h : Hash) → n * 64 ≤ length text → hash n (padded text) h ≡ hash n text h
unfolding padded
padded-front_of text n h l = hash-front n text (padding (length text)) h l

padded_back_of : (text : List ℕ) (n : ℕ) → n ≤ length text → drop n (padded text) ≡ drop n text ++ padding (length text)
unfolding padded
padded_back_of text n l = drop-append-le n text (padding (length text)) l

parts_of : (d b z : List ℕ) (k n : ℕ) → k ≡ n → d ++ ((0x80 ∷ zeros k) ++ (b ++ z)) ≡ (d ++ ((0x80 ∷ zeros n) ++ b)) ++ z
parts_of d b z k n e =
    ap (λ (m : ℕ). d ++ ((0x80 ∷ zeros m) ++ (b ++ z))) e
    ∙ ap (λ (x : List ℕ). d ++ x) (sym (append_assoc (0x80 ∷ zeros n) b z))
    ∙ sym (append_assoc d ((0x80 ∷ zeros n) ++ b) z)

module _ (text : List ℕ) where
  -- the whole blocks of the text, and the blocks after them
  whole : ℕ
  whole = length text / 64

  more : ℕ
  more = (length text % 64 + 72) / 64

  rest : List ℕ
  rest = drop (whole * 64) text ++ padding (length text)

  blocks_all : length (padded text) / 64 ≡ whole + more
  unfolding padded whole more zero_bytes
  blocks_all =
      let l : length (text ++ padding (length text)) ≡ length text + length (padding (length text)) = length-append text (padding (length text)) in
      omega (arith, l, length-padding (length text))

  length_rest : more * 64 ≤ length rest
  unfolding rest whole more zero_bytes
  length_rest =
      omega (arith, length-append (drop (length text / 64 * 64) text) (padding (length text)), length-drop (length text / 64 * 64) text, length-padding (length text))

  last_is : last_part text (whole * 64) (more * 64) ≡ rest ++ zeros (128 - more * 64)
  unfolding last_part rest padding whole more zero_bytes
  last_is =
      let p : more * 64 - (length text - whole * 64) - 9 ≡ zero_bytes (length text) = omega arith in
      parts_of (drop (whole * 64) text) (low_bytes 8 (length text * 8)) (zeros (128 - more * 64)) _ _ p

  pub digest_done : (h r : Hash) (last : List ℕ) → h ≡ hash (length text / 64) text initial
      → last ≡ last_part text (length text / 64 * 64) ((length text % 64 + 72) / 64 * 64) → r ≡ hash ((length text % 64 + 72) / 64) last h → digest_of r ≡ sha1 text
  unfolding sha1 whole more rest
  digest_done h r last eh el er =
      let t : whole * 64 ≤ length text = omega arith in
      let first : hash whole (padded text) initial ≡ h = padded-front_of text whole initial t ∙ sym eh in
      let left : drop (whole * 64) (padded text) ≡ rest = padded_back_of text (whole * 64) t in
      ap digest_of
      (er
      ∙ (λ i. hash more (el i) h) ∙ (λ i. hash more (last_is i) h) ∙ hash-front more rest (zeros (128 - more * 64)) h length_rest
      ∙ sym ((λ i. hash more (left i) (first i))) ∙ sym (hash_more whole more (padded text) initial)
      ∙ sym (ap (λ (k : ℕ). hash k (padded text) initial) blocks_all))
