-- Bytes cut into blocks, and blocks put together again.
use mathlib.Core.Path.{◌≡◌, refl, sym, ap, ap₂, ◌∙◌}
use mathlib.Core.List.{List, [], ◌∷◌, ◌++◌, append_assoc}
use Prim.Native.Nat.{ℕ, zero, suc, ◌+◌, ◌*◌, ◌≤◌, ◌<◌}
use native.Mathlib.Nat.{suc-mul, add_comm, not-suc-le-zero, le_of_suc-le-suc}
use native.Mathlib.Omega.{arith}
use lib.Dec.{lit<}
use lib.ListN.{length, get_or, take, drop, length-take, length-drop}
use lib.Seq.{slice, take-append-le, drop-append-le, take_at, drop_at, take-add, drop-drop, get_or-take, get_or-drop}
use Rattle.blocks.specs.Bytes.{Bytes, Block, Blocks, none, more, first_blocks, concat}

pub length-blocks : (n : ℕ) (a : List ℕ) → length (first_blocks n a) ≡ n
unfolding first_blocks
length-blocks zero a = refl
length-blocks (suc n) a = ap suc (length-blocks n (drop 16 a))

pub get_or-blocks : (n i : ℕ) (a : List ℕ) → i < n → get_or (first_blocks n a) i [] ≡ take 16 (drop (i * 16) a)
unfolding first_blocks
get_or-blocks zero i a h = absurd (not-suc-le-zero h)
get_or-blocks (suc n) zero a h = refl
get_or-blocks (suc n) (suc i) a h =
    get_or-blocks n i (drop 16 a) (le_of_suc-le-suc h)
    ∙ ap (take 16) (drop-drop (i * 16) 16 a ∙ ap (λ (k : ℕ). drop k a) (add_comm 16 (i * 16) ∙ sym (suc-mul i 16)))

-- byte j of block i
pub block-byte : (n i j : ℕ) (a : List ℕ) → i < n → j < 16 → get_or (get_or (first_blocks n a) i []) j 0 ≡ get_or a (i * 16 + j) 0
block-byte n i j a h l =
    ap (λ (b : List ℕ). get_or b j 0) (get_or-blocks n i a h) ∙ get_or-take 16 (drop (i * 16) a) j 0 l ∙ get_or-drop (i * 16) a j 0

pub bytes_take : (n : ℕ) (a : List ℕ) → Bytes a → Bytes (take n a)
bytes_take zero a h i = lit< tt
bytes_take (suc n) [] h i = lit< tt
bytes_take (suc n) (x ∷ a) h zero = h 0
bytes_take (suc n) (x ∷ a) h (suc i) = bytes_take n a (λ j. h (suc j)) i

pub bytes_drop : (n : ℕ) (a : List ℕ) → Bytes a → Bytes (drop n a)
bytes_drop n a h i = rw (get_or-drop n a i 0) (h (n + i))

pub bytes_append : (a b : List ℕ) → Bytes a → Bytes b → Bytes (a ++ b)
bytes_append [] b ha hb i = hb i
bytes_append (x ∷ a) b ha hb zero = ha 0
bytes_append (x ∷ a) b ha hb (suc i) = bytes_append a b (λ j. ha (suc j)) hb i

-- a list that is long enough gives blocks
pub blocks_of_lem : (n : ℕ) (a : List ℕ) → n * 16 ≤ length a → Bytes a → Blocks (first_blocks n a)
unfolding first_blocks
blocks_of_lem zero a l h = none
blocks_of_lem (suc n) a l h =
    let e : suc n * 16 ≡ n * 16 + 16 = suc-mul n 16 in
    more (record { long = length-take 16 a ∙ omega arith; bytes = bytes_take 16 a h })
    (blocks_of_lem n (drop 16 a) (rw length-drop (omega arith)) (bytes_drop 16 a h))

-- ---- lists of blocks

pub block_at : {bs : List (List ℕ)} (i : ℕ) → Blocks bs → i < length bs → Block (get_or bs i [])
block_at i none h = absurd (not-suc-le-zero h)
block_at zero (more b bs) h = b
block_at (suc i) (more b bs) h = block_at i bs (le_of_suc-le-suc h)

pub blocks-take : {bs : List (List ℕ)} (n : ℕ) → Blocks bs → Blocks (take n bs)
blocks-take zero h = none
blocks-take (suc n) none = none
blocks-take (suc n) (more b h) = more b (blocks-take n h)

pub blocks-drop : {bs : List (List ℕ)} (n : ℕ) → Blocks bs → Blocks (drop n bs)
blocks-drop zero h = h
blocks-drop (suc n) none = none
blocks-drop (suc n) (more b h) = blocks-drop n h

pub blocks-slice : {bs : List (List ℕ)} (from to : ℕ) → Blocks bs → Blocks (slice from to bs)
blocks-slice from to h = blocks-drop from (blocks-take to h)

-- ---- cut and concat

pub blocks-concat : {bs : List (List ℕ)} (rest : List ℕ) → Blocks bs → first_blocks (length bs) (concat bs ++ rest) ≡ bs
unfolding first_blocks concat
blocks-concat rest none = refl
blocks-concat rest (more {b = b} {bs = bs} hb h) =
    ap₂ (λ (x : List ℕ) (y : List (List ℕ)). x ∷ y)
    (ap (take 16) (append_assoc b (concat bs) rest) ∙ take_at b (concat bs ++ rest) 16 hb.long)
    (ap (first_blocks (length bs)) (ap (drop 16) (append_assoc b (concat bs) rest) ∙ drop_at b (concat bs ++ rest) 16 hb.long) ∙ blocks-concat rest h)

pub concat-blocks : (n : ℕ) (a : List ℕ) → concat (first_blocks n a) ≡ take (n * 16) a
unfolding first_blocks concat
concat-blocks zero a = refl
concat-blocks (suc n) a =
    ap (λ (x : List ℕ). take 16 a ++ x) (concat-blocks n (drop 16 a)) ∙ sym (take-add 16 (n * 16) a)
    ∙ ap (λ (k : ℕ). take k a) (add_comm 16 (n * 16) ∙ sym (suc-mul n 16))

-- the blocks in front of what follows them
pub blocks-front : (n : ℕ) (a b : List ℕ) → n * 16 ≤ length a → first_blocks n (a ++ b) ≡ first_blocks n a
unfolding first_blocks
blocks-front zero a b h = refl
blocks-front (suc n) a b h =
    let e : suc n * 16 ≡ n * 16 + 16 = suc-mul n 16 in
    ap₂ (λ (x : List ℕ) (y : List (List ℕ)). x ∷ y) (take-append-le 16 a b (omega arith))
    (ap (first_blocks n) (drop-append-le 16 a b (omega arith)) ∙ blocks-front n (drop 16 a) b (rw length-drop (omega arith)))
