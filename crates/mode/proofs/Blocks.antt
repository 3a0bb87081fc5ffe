-- Laws of bytes, blocks and padding.
use mathlib.Core.Path.{◌≡◌, refl, ap, ap₂, ◌∙◌}
use mathlib.Core.List.{List, [], ◌∷◌, ◌++◌, append_assoc}
use mathlib.Core.Bool.{false, not}
use Prim.Native.Nat.{ℕ, zero, suc, ◌+◌, ◌*◌, ◌-◌, ◌/◌, ◌%◌}
use native.Mathlib.Nat.{zero-add, suc-add}
use native.Mathlib.Omega.{arith}
use lib.ListN.{length, drop, replicate, length-append, length-drop, length-replicate}
use lib.Seq.{length-take-le, take-append-le, drop-append-le}
use lib.Dec.{eqb}
use borrow.Author.Tests.{eqb-true, eq-eqb, not-false}
use Rattle.blocks.specs.Bytes.{first_blocks}
use Rattle.mode.specs.Mode.{blocks_of, padded}
use Rattle.mode.specs.Table.{unaligned}
use Rattle.mode.specs.Calls.{Kind, middle, last, blocks_of_run, unaligned_run}
use Rattle.mode.proofs.Laws.{AllLong}

pub all_append : (x y : List (List ℕ)) → AllLong x → AllLong y → AllLong (x ++ y)
all_append [] y hx hy = hy
all_append (b ∷ x) y hx hy = (hx.0, all_append x y hx.1 hy)

pub length_blocks_from : (n : ℕ) (bytes : List ℕ) → length (first_blocks n bytes) ≡ n
unfolding first_blocks
length_blocks_from zero bytes = refl
length_blocks_from (suc n) bytes = ap suc (length_blocks_from n (drop 16 bytes))

rest_long : (n : ℕ) (a : List ℕ) → length a ≡ 16 * suc n → length (drop 16 a) ≡ 16 * n
rest_long n a e = length-drop 16 a ∙ omega arith

long-from : (n : ℕ) (a : List ℕ) → length a ≡ 16 * n → AllLong (first_blocks n a)
unfolding first_blocks
long-from zero a e = tt
long-from (suc n) a e = (length-take-le 16 a (omega arith), long-from n (drop 16 a) (rest_long n a e))

from-append : (n m : ℕ) (a b : List ℕ) → length a ≡ 16 * n → first_blocks (n + m) (a ++ b) ≡ first_blocks n a ++ first_blocks m b
unfolding first_blocks
from-append zero m [] b e = ap (λ (k : ℕ). first_blocks k b) (zero-add m)
from-append zero m (x ∷ a) b e = absurd (omega arith)
from-append (suc n) m a b e =
    ap (λ (k : ℕ). first_blocks k (a ++ b)) (suc-add n m)
    ∙ ap₂ (λ (h : List ℕ) (t : List (List ℕ)). h ∷ t) (take-append-le 16 a b (omega arith))
    (ap (first_blocks (n + m)) (drop-append-le 16 a b (omega arith)) ∙ from-append n m (drop 16 a) b (rest_long n a e))

pub blocks_of-append : (a b : List ℕ) → length a % 16 ≡ 0 → blocks_of (a ++ b) ≡ blocks_of a ++ blocks_of b
unfolding blocks_of
blocks_of-append a b e =
    ap (λ (k : ℕ). first_blocks k (a ++ b)) (ap (λ (k : ℕ). k / 16) (length-append a b) ∙ omega arith)
    ∙ from-append (length a / 16) (length b / 16) a b (omega arith)

pub long-blocks : (a : List ℕ) → length a % 16 ≡ 0 → AllLong (blocks_of a)
unfolding blocks_of
long-blocks a e = long-from (length a / 16) a (omega arith)

pub length-padded : (m : List ℕ) → length (padded m) ≡ 16 * (length m / 16 + 1)
unfolding padded
length-padded m =
    length-append m (0x80 ∷ replicate (15 - length m % 16) 0)
    ∙ ap (λ (k : ℕ). length m + suc k) (length-replicate (15 - length m % 16) 0) ∙ omega arith

pub padded-append : (a b : List ℕ) → length a % 16 ≡ 0 → padded (a ++ b) ≡ a ++ padded b
unfolding padded
padded-append a b e =
    let r : length (a ++ b) % 16 ≡ length b % 16 = ap (λ (k : ℕ). k % 16) (length-append a b) ∙ omega arith in
    ap (λ (k : ℕ). a ++ b ++ (0x80 ∷ replicate (15 - k) 0)) r
    ∙ append_assoc a b (0x80 ∷ replicate (15 - length b % 16) 0)

pub count_middle : (a : List ℕ) → length (blocks_of a) ≡ length a / 16
unfolding blocks_of
count_middle a = length_blocks_from (length a / 16) a

pub count_last : (a : List ℕ) → length (blocks_of (padded a)) ≡ length a / 16 + 1
count_last a = count_middle (padded a) ∙ ap (λ (k : ℕ). k / 16) (length-padded a) ∙ omega arith

pub aligned : (a : List ℕ) → length a % 16 ≡ 0 → unaligned a ≡ false
unfolding unaligned
aligned a e = ap not (eq-eqb (length a % 16) 0 e)

pub run_long : (kind : Kind) (bytes : List ℕ) → unaligned_run kind bytes ≡ false → AllLong (blocks_of_run kind bytes)
unfolding blocks_of_run unaligned_run unaligned
run_long middle bytes e = long-blocks bytes (eqb-true (length bytes % 16) 0 (not-false (eqb (length bytes % 16) 0) e))
run_long last bytes e = long-blocks (padded bytes) (ap (λ (k : ℕ). k % 16) (length-padded bytes) ∙ omega arith)
