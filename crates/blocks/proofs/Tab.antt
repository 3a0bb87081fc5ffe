-- Lists by index: lengths, elements, bounds; and loops that fill a list from the front, one store a turn.
use mathlib.Core.Path.{◌≡◌, refl, sym, ap, ◌∙◌}
use mathlib.Core.List.{List, [], ◌∷◌, ◌++◌, append-nil}
use Prim.Native.Nat.{ℕ, zero, suc, ◌+◌, ◌≤◌, ◌<◌}
use native.Mathlib.Nat.{not-suc-le-zero, le_of_suc-le-suc, le_of_eq, zero-add, add-zero, suc-add, add-suc}
use native.Mathlib.Numerals.{add-one}
use native.Mathlib.Omega.{arith}
use lib.Bits.{bit_xor}
use lib.Dec.{lit<}
use lib.ListN.{length, get_or, set, take, drop, length-take, length-drop, length-replicate, drop_of_length-le}
use lib.Seq.{ext_get_or, take_all, get_or-take, get_or-drop}
use Rattle.blocks.specs.Bytes.{Bytes, Block, xor_bytes, zeros}
use Rattle.blocks.specs.Tab.{tab, tab_from}
use Rattle.blocks.proofs.XorBytes.{length-xor, get_or-xor}

length-tab_from : (k n : ℕ) (f : ℕ → ℕ) → length (tab_from k n f) ≡ n
length-tab_from k zero f = refl
length-tab_from k (suc n) f = ap suc (length-tab_from (suc k) n f)

pub length-tab : (n : ℕ) (f : ℕ → ℕ) → length (tab n f) ≡ n
length-tab n f = length-tab_from 0 n f

get_or-tab_from : (k n i : ℕ) (f : ℕ → ℕ) → i < n → get_or (tab_from k n f) i 0 ≡ f (k + i)
get_or-tab_from k zero i f h = absurd (not-suc-le-zero h)
get_or-tab_from k (suc n) zero f h = ap f (sym (add-zero k))
get_or-tab_from k (suc n) (suc i) f h = get_or-tab_from (suc k) n i f (le_of_suc-le-suc h) ∙ ap f (suc-add k i ∙ sym (add-suc k i))

pub get_or-tab : (n i : ℕ) (f : ℕ → ℕ) → i < n → get_or (tab n f) i 0 ≡ f i
get_or-tab n i f h = get_or-tab_from 0 n i f h ∙ ap f (zero-add i)

-- a list is that of its elements
pub tab_of : (n : ℕ) (f : ℕ → ℕ) (a : List ℕ) → length a ≡ n → ((i : ℕ) → i < n → f i ≡ get_or a i 0) → tab n f ≡ a
tab_of n f a e h =
    ext_get_or 0 (tab n f) a (length-tab n f ∙ sym e) (λ i l. let k : i < n = rw (length-tab n f) at l in get_or-tab n i f k ∙ h i k)

pub tab_self : (n : ℕ) (a : List ℕ) → length a ≡ n → tab n (λ i. get_or a i 0) ≡ a
tab_self n a e = tab_of n (λ i. get_or a i 0) a e (λ i l. refl)

pub tab_ext : (n : ℕ) (f g : ℕ → ℕ) → ((i : ℕ) → i < n → f i ≡ g i) → tab n f ≡ tab n g
tab_ext n f g h = tab_of n f (tab n g) (length-tab n g) (λ i l. h i l ∙ sym (get_or-tab n i g l))

pub tab-xor : (n : ℕ) (a b : List ℕ) → length a ≡ n → length b ≡ n → tab n (λ i. bit_xor (get_or a i 0) (get_or b i 0)) ≡ xor_bytes a b
tab-xor n a b ea eb =
    let e = ea ∙ sym eb in
    tab_of n (λ i. bit_xor (get_or a i 0) (get_or b i 0)) (xor_bytes a b) (length-xor a b e ∙ ea) (λ i l. sym (get_or-xor a b i e))

-- the part of a list at a place
pub tab-part : (n at : ℕ) (a : List ℕ) → at + n ≤ length a → tab n (λ i. get_or a (at + i) 0) ≡ take n (drop at a)
tab-part n at a h =
    tab_of n (λ i. get_or a (at + i) 0) (take n (drop at a)) (simp (length-take, length-drop) (omega arith))
    (λ i l. sym (get_or-take n (drop at a) i 0 l ∙ get_or-drop at a i 0))

tab_from_bytes : (k n : ℕ) (f : ℕ → ℕ) → ((i : ℕ) → f i < 256) → Bytes (tab_from k n f)
tab_from_bytes k zero f h i = lit< tt
tab_from_bytes k (suc n) f h zero = h k
tab_from_bytes k (suc n) f h (suc i) = tab_from_bytes (suc k) n f h i

pub bytes_tab : (n : ℕ) (f : ℕ → ℕ) → ((i : ℕ) → f i < 256) → Bytes (tab n f)
bytes_tab n f h = tab_from_bytes 0 n f h

pub block-tab : (f : ℕ → ℕ) → ((i : ℕ) → f i < 256) → Block (tab 16 f)
block-tab f h = record { long = length-tab 16 f; bytes = bytes_tab 16 f h }

-- ---- loops that write the list s over the front of d: after n turns it is `take n s ++ drop n d`

unfoldable pub built : List ℕ → List ℕ → ℕ → List ℕ
built s d n = take n s ++ drop n d

pub built_none : (s d : List ℕ) → d ≡ built s d 0
unfolding built
built_none s d = refl

built_suc : (n : ℕ) (s d : List ℕ) → n < length s → n < length d → set (built s d n) n (get_or s n 0) ≡ built s d (suc n)
unfolding built
built_suc n [] d hs hd = absurd (not-suc-le-zero hs)
built_suc n (y ∷ s) [] hs hd = absurd (not-suc-le-zero hd)
built_suc zero (y ∷ s) (x ∷ d) hs hd = refl
built_suc (suc n) (y ∷ s) (x ∷ d) hs hd = ap (λ (t : List ℕ). y ∷ t) (built_suc n s d (le_of_suc-le-suc hs) (le_of_suc-le-suc hd))

-- a turn: r holds n elements of s, and a store of the next
pub built_more : {r : List ℕ} {v : ℕ} (n : ℕ) (s d : List ℕ) → n < length s → n < length d → r ≡ built s d n → v ≡ get_or s n 0
    → set r n v ≡ built s d (n + 1)
built_more {r} {v} n s d hs hd e f =
    ap (λ (x : List ℕ). set x n v) e ∙ ap (set (built s d n) n) f ∙ built_suc n s d hs hd ∙ ap (built s d) (sym (add-one n))

pub built_all : (n : ℕ) (s d : List ℕ) → length s ≡ n → length d ≡ n → built s d n ≡ s
unfolding built
built_all n s d e f =
    ap (λ (x : List ℕ). take n s ++ x) (drop_of_length-le d (le_of_eq f)) ∙ append-nil (take n s) ∙ take_all n s (le_of_eq e)

-- ---- loops that fill a list of n zeros, index by index: f at each index below i, then zeros

unfoldable pub filled : ℕ → (ℕ → ℕ) → ℕ → List ℕ
filled n f i = built (tab n f) (zeros n) i

pub fill_none : (n : ℕ) (f : ℕ → ℕ) → zeros n ≡ filled n f 0
unfolding filled
fill_none n f = built_none (tab n f) (zeros n)

pub fill_more : {r : List ℕ} {v : ℕ} (n : ℕ) (f : ℕ → ℕ) (i : ℕ) → i < n → r ≡ filled n f i → v ≡ f i → set r i v ≡ filled n f (i + 1)
unfolding filled
fill_more n f i h e g =
    built_more i (tab n f) (zeros n) (rw (length-tab n f) h) (rw (length-replicate {A = ℕ} n 0) h) e (g ∙ sym (get_or-tab n i f h))

pub fill_all : {r : List ℕ} (n : ℕ) (f : ℕ → ℕ) (i : ℕ) → i ≤ n → n ≤ i → r ≡ filled n f i → r ≡ tab n f
unfolding filled
fill_all n f i l h e =
    let z : i ≡ n = omega arith in
    e ∙ ap (built (tab n f) (zeros n)) z ∙ built_all n (tab n f) (zeros n) (length-tab n f) (length-replicate {A = ℕ} n 0)
