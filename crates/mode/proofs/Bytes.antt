-- Bytes and blocks: bounds, parts, padding undone.
use mathlib.Core.Path.{◌≡◌, refl, sym, ap, ap₂, ◌∙◌}
use mathlib.Core.List.{List, [], ◌∷◌, ◌++◌, append_assoc}
use mathlib.Core.Option.{some}
use mathlib.Core.Bool.{Bool, true, false, cond}
use Prim.Native.Nat.{ℕ, zero, suc, ◌+◌, ◌*◌, ◌-◌, ◌/◌, ◌%◌, ◌≤◌, ◌<◌}
use native.Mathlib.Omega.{arith}
use lib.ListN.{length, take, drop, get_or, replicate, length-append, length-drop, take-append-drop}
use lib.Seq.{length-take-le, take_all, take_at, drop_at, drop-drop, get_or-append_seam, get_or-append-add, take-append_seam}
use lib.Dec.{lit<, ltb, eqb}
use borrow.Author.Tests.{ltb-true, ltb-false, eqb-true, not-false}
use Rattle.blocks.specs.Bytes.{Bytes, Block, first_blocks, same, concat}
use Rattle.blocks.proofs.Chunks.{bytes_append, bytes_take, bytes_drop}
use Rattle.mode.specs.Mode.{Finish, overhead, blocks_of, padded, iv_part, cipher_part, tag_part}
use Rattle.mode.specs.Table.{unaligned}
use Rattle.mode.specs.Calls.{Kind, middle, last, blocks_of_run, unaligned_run, unpad_from}
use Rattle.mode.proofs.Laws.{AllLong}
use Rattle.mode.proofs.Blocks.{blocks_of-append, length-padded}
use Rattle.mode.proofs.Same.{same_true, same_self}

-- ---- bounds

pub bytes_left : (a b : List ℕ) → Bytes (a ++ b) → Bytes a
bytes_left [] b h i = lit< tt
bytes_left (x ∷ a) b h zero = h 0
bytes_left (x ∷ a) b h (suc i) = bytes_left a b (λ i. h (suc i)) i

pub bytes_right : (a b : List ℕ) → Bytes (a ++ b) → Bytes b
bytes_right [] b h i = h i
bytes_right (x ∷ a) b h i = bytes_right a b (λ i. h (suc i)) i

bytes_zeros : (n : ℕ) → Bytes (replicate n 0)
bytes_zeros zero i = lit< tt
bytes_zeros (suc n) zero = lit< tt
bytes_zeros (suc n) (suc i) = bytes_zeros n i

pub bytes_padded : (m : List ℕ) → Bytes m → Bytes (padded m)
unfolding padded
bytes_padded m h = bytes_append m (0x80 ∷ replicate (15 - length m % 16) 0) h tail
  where
    tail : Bytes (0x80 ∷ replicate (15 - length m % 16) 0)
    tail zero = lit< tt
    tail (suc i) = bytes_zeros (15 - length m % 16) i

-- ---- blocks and bytes

abbrev pub AllBlocks : List (List ℕ) → Type 0
AllBlocks [] = Unit {0}
AllBlocks (b ∷ bs) = Block b × AllBlocks bs

pub all_blocks-long : (bs : List (List ℕ)) → AllBlocks bs → AllLong bs
all_blocks-long [] h = tt
all_blocks-long (b ∷ bs) h = (h.0.long, all_blocks-long bs h.1)

pub all_blocks_left : (x y : List (List ℕ)) → AllBlocks (x ++ y) → AllBlocks x
all_blocks_left [] y h = tt
all_blocks_left (b ∷ x) y h = (h.0, all_blocks_left x y h.1)

pub all_blocks_right : (x y : List (List ℕ)) → AllBlocks (x ++ y) → AllBlocks y
all_blocks_right [] y h = h
all_blocks_right (b ∷ x) y h = all_blocks_right x y h.1

pub bytes_concat : (bs : List (List ℕ)) → AllBlocks bs → Bytes (concat bs)
unfolding concat
bytes_concat [] h i = lit< tt
bytes_concat (b ∷ bs) h i = bytes_append b (concat bs) h.0.bytes (bytes_concat bs h.1) i

pub length-concat : (bs : List (List ℕ)) → AllBlocks bs → length (concat bs) ≡ 16 * length bs
unfolding concat
length-concat [] h = refl
length-concat (b ∷ bs) h = length-append b (concat bs) ∙ ap₂ (λ (x y : ℕ). x + y) h.0.long (length-concat bs h.1) ∙ omega arith

good_from : (n : ℕ) (a : List ℕ) → length a ≡ 16 * n → Bytes a → AllBlocks (first_blocks n a)
unfolding first_blocks
good_from zero a e h = tt
good_from (suc n) a e h = (
  record { long = length-take-le 16 a (omega arith); bytes = bytes_take 16 a h },
  good_from n (drop 16 a) (length-drop 16 a ∙ omega arith) (bytes_drop 16 a h),
)

pub good_blocks : (a : List ℕ) → length a % 16 ≡ 0 → Bytes a → AllBlocks (blocks_of a)
unfolding blocks_of
good_blocks a e h = good_from (length a / 16) a (omega arith) h

pub run_blocks : (kind : Kind) (bytes : List ℕ) → Bytes bytes → unaligned_run kind bytes ≡ false → AllBlocks (blocks_of_run kind bytes)
unfolding blocks_of_run unaligned_run unaligned
run_blocks middle bytes h e = good_blocks bytes (eqb-true (length bytes % 16) 0 (not-false (eqb (length bytes % 16) 0) e)) h
run_blocks last bytes h e = good_blocks (padded bytes) (ap (λ (k : ℕ). k % 16) (length-padded bytes) ∙ omega arith) (bytes_padded bytes h)

concat-from : (n : ℕ) (a : List ℕ) → length a ≡ 16 * n → concat (first_blocks n a) ≡ a
unfolding first_blocks concat
concat-from zero [] e = refl
concat-from zero (x ∷ a) e = absurd (omega arith)
concat-from (suc n) a e = ap (λ (t : List ℕ). take 16 a ++ t) (concat-from n (drop 16 a) (length-drop 16 a ∙ omega arith)) ∙ take-append-drop 16 a

pub concat-blocks : (a : List ℕ) → length a % 16 ≡ 0 → concat (blocks_of a) ≡ a
unfolding blocks_of
concat-blocks a e = concat-from (length a / 16) a (omega arith)

one_block : (b : List ℕ) → length b ≡ 16 → blocks_of b ≡ b ∷ []
unfolding blocks_of first_blocks
one_block b e =
    ap (λ (n : ℕ). first_blocks (n / 16) b) e ∙ ap (λ (t : List ℕ). t ∷ []) (take_all 16 b (omega arith))

pub blocks-concat : (bs : List (List ℕ)) → AllBlocks bs → blocks_of (concat bs) ≡ bs
unfolding concat
blocks-concat [] h = unfold blocks_of first_blocks in refl
blocks-concat (b ∷ bs) h =
    blocks_of-append b (concat bs) (ap (λ (n : ℕ). n % 16) h.0.long)
    ∙ ap₂ (λ (x y : List (List ℕ)). x ++ y) (one_block b h.0.long) (blocks-concat bs h.1)

-- ---- the parts of a sealed record

pub parts_of : (t : Finish) (iv text tag : List ℕ) → length iv ≡ 16 → length tag ≡ t.tag_length
    → (iv_part (iv ++ text ++ tag) ≡ iv) × (cipher_part t (iv ++ text ++ tag) ≡ text) × (tag_part t (iv ++ text ++ tag) ≡ tag)
unfolding iv_part cipher_part tag_part
parts_of t iv text tag p q = (
  ap (take 16) (append_assoc iv text tag) ∙ take_at iv (text ++ tag) 16 p,
  ap (λ (l : List ℕ). take (length (iv ++ text ++ tag) - overhead t) (drop 16 l)) (append_assoc iv text tag)
      ∙ ap (take (length (iv ++ text ++ tag) - overhead t)) (drop_at iv (text ++ tag) 16 p)
      ∙ take_at text tag (length (iv ++ text ++ tag) - overhead t) (omega (arith, n₁, n₂)),
  drop_at (iv ++ text) tag (length (iv ++ text ++ tag) - t.tag_length) (omega (arith, n₁)),
)
  where
    n₁ : length (iv ++ text ++ tag) ≡ length (iv ++ text) + length tag
    n₁ = length-append (iv ++ text) tag

    n₂ : length (iv ++ text) ≡ length iv + length text
    n₂ = length-append iv text

pub parts_whole : (t : Finish) (sealed : List ℕ) → overhead t ≤ length sealed → iv_part sealed ++ cipher_part t sealed ++ tag_part t sealed ≡ sealed
unfolding iv_part cipher_part tag_part
parts_whole t sealed h =
    append_assoc (take 16 sealed) (take (length sealed - overhead t) (drop 16 sealed)) (drop (length sealed - t.tag_length) sealed)
    ∙ ap (λ (l : List ℕ). take 16 sealed ++ l)
    (ap (λ (n : ℕ). take (length sealed - overhead t) (drop 16 sealed) ++ drop n sealed) there
    ∙ ap (λ (l : List ℕ). take (length sealed - overhead t) (drop 16 sealed) ++ l) (sym (drop-drop (length sealed - overhead t) 16 sealed))
    ∙ take-append-drop (length sealed - overhead t) (drop 16 sealed))
    ∙ take-append-drop 16 sealed
  where
    there : length sealed - t.tag_length ≡ 16 + (length sealed - overhead t)
    there = omega arith

-- ---- padding undone

pub zeros_at : (n i : ℕ) → ◌≡◌ {A = ℕ} (get_or (replicate n 0) i 0) 0
zeros_at zero i = refl
zeros_at (suc n) zero = refl
zeros_at (suc n) (suc i) = zeros_at n i

pub mark_at : (m : List ℕ) → get_or (padded m) (length m) 0 ≡ 0x80
unfolding padded
mark_at m = get_or-append_seam m 0x80 (replicate (15 - length m % 16) 0) 0

pub zero_past : (m : List ℕ) (i : ℕ) → length m < i → get_or (padded m) i 0 ≡ 0
unfolding padded
zero_past m i h =
    let e : i ≡ length m + suc (i - length m - 1) = omega arith in
    ap (λ (j : ℕ). get_or (m ++ (0x80 ∷ replicate (15 - length m % 16) 0)) j 0) e
    ∙ get_or-append-add m (0x80 ∷ replicate (15 - length m % 16) 0) (suc (i - length m - 1)) 0
    ∙ zeros_at (15 - length m % 16) (i - length m - 1)

not_longer : (a b : List ℕ) → padded a ≡ padded b → length a < length b → ⊥
not_longer a b e h =
    let z : ◌≡◌ {A = ℕ} 0x80 0 = sym (mark_at b) ∙ ap (λ (l : List ℕ). get_or l (length b) 0) (sym e) ∙ zero_past a (length b) h in
    omega arith

front : (m : List ℕ) → take (length m) (padded m) ≡ m
unfolding padded
front m = take-append_seam m (0x80 ∷ replicate (15 - length m % 16) 0)

pub padded_inj : (a b : List ℕ) → padded a ≡ padded b → a ≡ b
padded_inj a b e = by (ltb (length a) (length b)) (ltb (length b) (length a)) refl refl
  where
    by : (s t : Bool) → ltb (length a) (length b) ≡ s → ltb (length b) (length a) ≡ t → a ≡ b
    by true t p q = absurd (not_longer a b e (ltb-true (length a) (length b) p))
    by false true p q = absurd (not_longer b a (sym e) (ltb-true (length b) (length a) q))
    by false false p q =
        let n : length a ≡ length b = (let u : length b ≤ length a = ltb-false (length a) (length b) p in let v : length a ≤ length b = ltb-false (length b) (length a) q in omega arith) in
        sym (front a) ∙ ap₂ take n e ∙ front b

-- what is found was padded
pub unpad_sound : (k : ℕ) (bytes m : List ℕ) → unpad_from k bytes ≡ some m → padded m ≡ bytes
unfolding unpad_from
unpad_sound zero bytes m e = absurd (let z : ◌≡◌ {A = ℕ} 0 1 = cc in omega arith)
unpad_sound (suc k) bytes m e = by (same (padded (take (length bytes - suc k) bytes)) bytes) refl e (unpad_sound k bytes m)
  where
    by : (t : Bool) → same (padded (take (length bytes - suc k) bytes)) bytes ≡ t
        → cond t (some (take (length bytes - suc k) bytes)) (unpad_from k bytes) ≡ some m → (unpad_from k bytes ≡ some m → padded m ≡ bytes) → padded m ≡ bytes
    by true p e rec = let q : take (length bytes - suc k) bytes ≡ m = cc in ap padded (sym q) ∙ same_true (padded (take (length bytes - suc k) bytes)) bytes p
    by false p e rec = rec e

-- and what was padded is found
pub unpad_complete : (k : ℕ) (m : List ℕ) → length (padded m) ≤ length m + k → unpad_from k (padded m) ≡ some m
unfolding unpad_from
unpad_complete zero m h = absurd (omega (arith, length-padded m))
unpad_complete (suc k) m h = by (same (padded (take (length (padded m) - suc k) (padded m))) (padded m)) refl (unpad_complete k m)
  where
    at : length (padded m) ≡ length m + suc k → same (padded (take (length (padded m) - suc k) (padded m))) (padded m) ≡ true
    at e =
        let n : length (padded m) - suc k ≡ length m = omega arith in
        ap (λ (j : ℕ). same (padded (take j (padded m))) (padded m)) n
        ∙ ap (λ (l : List ℕ). same (padded l) (padded m)) (front m) ∙ same_self (padded m)

    closer : same (padded (take (length (padded m) - suc k) (padded m))) (padded m) ≡ false → (t : Bool) → ltb (length (padded m)) (length m + suc k) ≡ t
        → length (padded m) ≤ length m + k
    closer p true e = let l : length (padded m) < length m + suc k = ltb-true (length (padded m)) (length m + suc k) e in omega arith
    closer p false e =
        let l : length m + suc k ≤ length (padded m) = ltb-false (length (padded m)) (length m + suc k) e in
        let q : same (padded (take (length (padded m) - suc k) (padded m))) (padded m) ≡ true = at (omega arith) in
        absurd (let z : ◌≡◌ {A = ℕ} 0 1 = cc in omega arith)

    by : (t : Bool) → same (padded (take (length (padded m) - suc k) (padded m))) (padded m) ≡ t
        → (length (padded m) ≤ length m + k → unpad_from k (padded m) ≡ some m)
        → cond t (some (take (length (padded m) - suc k) (padded m))) (unpad_from k (padded m)) ≡ some m
    by true p rec =
        ap (λ (l : List ℕ). some l)
        (padded_inj (take (length (padded m) - suc k) (padded m)) m (same_true (padded (take (length (padded m) - suc k) (padded m))) (padded m) p))
    by false p rec = rec (closer p (ltb (length (padded m)) (length m + suc k)) refl)

-- two messages never pad to the same bytes
pub padded_once : (m n : List ℕ) → padded m ≡ padded n → m ≡ n
padded_once m n e =
    let p : unpad_from 16 (padded m) ≡ some m = unpad_complete 16 m (rw (length-padded m) (omega arith)) in
    let q : unpad_from 16 (padded n) ≡ some n = unpad_complete 16 n (rw (length-padded n) (omega arith)) in
    let s : some m ≡ some n = sym p ∙ ap (unpad_from 16) e ∙ q in
    cc
