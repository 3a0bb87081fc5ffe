-- The signed jump, on blocks: blocks go to blocks, distances add, and a jump is undone by the one as far the other way.
use mathlib.Core.Path.{◌≡◌, refl, sym, ap, ◌∙◌}
use mathlib.Core.Bool.{Bool, true, false}
use mathlib.Core.List.{List}
use Prim.Native.Nat.{ℕ, zero, suc, ◌+◌, zero-le}
use borrow.Author.Tests.{le-ltb}
use lib.IntN.{ℤ, pos, negsuc, neg_ℤ, nat_abs, suc_ℤ, pred_ℤ, ◌+ℤ◌, +ℤ_idl, +ℤ_invl, suc_ℤ-+ℤ, pred_ℤ-+ℤ, neg_ℤ-+ℤ}
use lib.ListN.{length}
use lib.Signed.{lt_z}
use Rattle.blocks.specs.Bytes.{Block}
use Rattle.gf128.specs.Gf128.{times_x, jump, over_x, jump_by, signed, one, power}
use Rattle.gf128.proofs.TimesX.{length-jump, block-jump, block_one}
use Rattle.gf128.proofs.OverX.{length-over_x, block-over_x, over_times, times_over}

pub length-jump_by : (d : ℤ) (b : List ℕ) → length b ≡ 16 → length (jump_by d b) ≡ 16
unfolding jump_by
length-jump_by (pos n) b e = length-jump n b e
length-jump_by (negsuc zero) b e = length-over_x b e
length-jump_by (negsuc (suc n)) b e = length-over_x (jump_by (negsuc n) b) (length-jump_by (negsuc n) b e)

pub block-jump_by : (d : ℤ) (b : List ℕ) → Block b → Block (jump_by d b)
unfolding jump_by
block-jump_by (pos n) b h = block-jump n b h
block-jump_by (negsuc zero) b h = block-over_x b h
block-jump_by (negsuc (suc n)) b h = block-over_x (jump_by (negsuc n) b) (block-jump_by (negsuc n) b h)

pub block-power : (d : ℤ) → Block (power d)
unfolding power
block-power d = block-jump_by d one block_one

-- ---- one block more, and one less

one_more : (d : ℤ) (b : List ℕ) → Block b → jump_by (suc_ℤ d) b ≡ times_x (jump_by d b)
unfolding jump_by jump
one_more (pos n) b h = refl
one_more (negsuc zero) b h = sym (times_over b h)
one_more (negsuc (suc n)) b h = sym (times_over (jump_by (negsuc n) b) (block-jump_by (negsuc n) b h))

one_less : (d : ℤ) (b : List ℕ) → Block b → jump_by (pred_ℤ d) b ≡ over_x (jump_by d b)
unfolding jump_by jump
one_less (pos zero) b h = refl
one_less (pos (suc n)) b h = sym (over_times (jump n b) (block-jump n b h))
one_less (negsuc n) b h = refl

-- ---- distances add

pub jump_by-add : (d e : ℤ) (b : List ℕ) → Block b → jump_by (d +ℤ e) b ≡ jump_by d (jump_by e b)
unfolding jump_by jump
jump_by-add (pos zero) e b h = ap (λ (k : ℤ). jump_by k b) (+ℤ_idl e)
jump_by-add (pos (suc n)) e b h =
    ap (λ (k : ℤ). jump_by k b) (suc_ℤ-+ℤ (pos n) e) ∙ one_more (pos n +ℤ e) b h ∙ ap times_x (jump_by-add (pos n) e b h)
jump_by-add (negsuc zero) e b h = ap (λ (k : ℤ). jump_by k b) (pred_ℤ-+ℤ (pos zero) e ∙ ap pred_ℤ (+ℤ_idl e)) ∙ one_less e b h
jump_by-add (negsuc (suc n)) e b h =
    ap (λ (k : ℤ). jump_by k b) (pred_ℤ-+ℤ (negsuc n) e) ∙ one_less (negsuc n +ℤ e) b h ∙ ap over_x (jump_by-add (negsuc n) e b h)

pub jump_by-none : (b : List ℕ) → jump_by (pos 0) b ≡ b
unfolding jump_by jump
jump_by-none b = refl

pub jump_by_undone : (d : ℤ) (b : List ℕ) → Block b → jump_by (neg_ℤ d) (jump_by d b) ≡ b
jump_by_undone d b h = sym (jump_by-add (neg_ℤ d) d b h) ∙ ap (λ (k : ℤ). jump_by k b) (+ℤ_invl d) ∙ jump_by-none b

-- so a jump tells two blocks apart
pub jump_injective : (n : ℕ) (a b : List ℕ) → Block a → Block b → jump n a ≡ jump n b → a ≡ b
unfolding jump_by
jump_injective n a b ha hb e = sym (jump_by_undone (pos n) a ha) ∙ ap (jump_by (neg_ℤ (pos n))) e ∙ jump_by_undone (pos n) b hb

-- ---- a distance by its direction and its number of blocks

pub signed-none : (back : Bool) → signed back 0 ≡ pos 0
unfolding signed
signed-none true = refl
signed-none false = refl

pub no_step : (back : Bool) (n : ℕ) (b : List ℕ) → n ≡ 0 → jump_by (signed back n) b ≡ b
no_step back n b e = ap (λ (d : ℤ). jump_by d b) (ap (signed back) e ∙ signed-none back) ∙ jump_by-none b

pub step_back : (back : Bool) (n : ℕ) (b : List ℕ) → back ≡ true → n ≡ 1 → jump_by (signed back n) b ≡ over_x b
unfolding jump_by signed
step_back back n b t e = λ i. jump_by (signed (t i) (e i)) b

pub step_on : (back : Bool) (n : ℕ) (b : List ℕ) → back ≡ false → n ≡ 1 → jump_by (signed back n) b ≡ times_x b
unfolding jump_by jump signed
step_on back n b t e = λ i. jump_by (signed (t i) (e i)) b

pub signed_add : (back : Bool) (m n : ℕ) → signed back (m + n) ≡ signed back m +ℤ signed back n
unfolding signed
signed_add true m n = neg_ℤ-+ℤ (pos m) (pos n)
signed_add false m n = refl

pub signed_all : (d : ℤ) → signed (lt_z d (pos 0)) (nat_abs d) ≡ d
unfolding signed
signed_all (pos n) = ap (λ (back : Bool). signed back n) (le-ltb n 0 zero-le)
signed_all (negsuc n) = refl
