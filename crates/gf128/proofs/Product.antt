-- The ring of blocks: the product of two blocks is linear on both sides, commutes and associates, 0 gives 0, 1 does nothing, and the product with
-- x^d is the jump by d.
use mathlib.Core.Path.{◌≡◌, refl, sym, ap, ap₂, ◌∙◌}
use mathlib.Core.List.{List}
use Prim.Native.Nat.{ℕ, zero, suc, ◌^◌, ◌<◌}
use lib.Bits.{bit_xor}
use lib.Dec.{lit<}
use lib.IntN.{ℤ, pos, negsuc}
use Rattle.blocks.specs.Bytes.{Block, zeros, xor_bytes}
use Rattle.blocks.specs.Field.{steps, mul}
use Rattle.blocks.specs.Num.{num}
use Rattle.blocks.proofs.Field.{mul_right, mul-one, mul_comm, mul_assoc, mul-lt, mul-steps}
use Rattle.blocks.proofs.XorBytes.{block-xor, xor_bytes_self}
use Rattle.blocks.proofs.Num.{same_block, block-lt, block-low_bytes, num-low_bytes_lem, num-xor}
use Rattle.gf128.specs.Gf128.{jump, over_x, jump_by, product, one, power}
use Rattle.gf128.proofs.TimesX.{block-jump, block-zero, block_one}
use Rattle.gf128.proofs.OverX.{block-over_x, over_times, times_over}
use Rattle.gf128.proofs.JumpBy.{block-jump_by}
use Rattle.gf128.proofs.NumX.{num-jump}

pub poly_lt : 0x87 < 2 ^ 128
poly_lt = lit< tt

pub block-product : (a b : List ℕ) → Block (product a b)
unfolding product
block-product a b = block-low_bytes (mul 127 0x87 (num a) (num b))

pub num-product : (a b : List ℕ) → Block b → num (product a b) ≡ mul 127 0x87 (num a) (num b)
unfolding product
num-product a b hb = num-low_bytes_lem (mul 127 0x87 (num a) (num b)) (mul-lt 127 0x87 poly_lt (num a) (num b) (block-lt b hb))

-- a block that has the product's number is the product
pub product_is : (a b r : List ℕ) → Block b → Block r → num r ≡ mul 127 0x87 (num a) (num b) → r ≡ product a b
product_is a b r hb hr e = same_block hr (block-product a b) (e ∙ sym (num-product a b hb))

pub num-one : num one ≡ 1
unfolding num one
num-one = refl

pub product_comm : (a b : List ℕ) → Block a → Block b → product a b ≡ product b a
product_comm a b ha hb =
    product_is b a (product a b) ha (block-product a b) (num-product a b hb ∙ mul_comm 127 0x87 (num a) (num b) (block-lt a ha) (block-lt b hb))

pub product_assoc : (a b c : List ℕ) → Block a → Block b → Block c → product (product a b) c ≡ product a (product b c)
product_assoc a b c ha hb hc =
    product_is a (product b c) (product (product a b) c) (block-product b c) (block-product (product a b) c)
    (num-product (product a b) c hc ∙ ap (λ (z : ℕ). mul 127 0x87 z (num c)) (num-product a b hb)
    ∙ mul_assoc 127 0x87 poly_lt (num a) (num b) (num c) (block-lt a ha) (block-lt b hb) (block-lt c hc)
    ∙ ap (mul 127 0x87 (num a)) (sym (num-product b c hc)))

pub product_xor_right : (a b c : List ℕ) → Block b → Block c → product a (xor_bytes b c) ≡ xor_bytes (product a b) (product a c)
product_xor_right a b c hb hc =
    same_block (block-product a (xor_bytes b c)) (block-xor (product a b) (product a c) (block-product a b) (block-product a c))
    (num-product a (xor_bytes b c) (block-xor b c hb hc) ∙ ap (mul 127 0x87 (num a)) (num-xor b c hb hc) ∙ mul_right 127 0x87 (num a) (num b) (num c)
    ∙ sym (num-xor (product a b) (product a c) (block-product a b) (block-product a c) ∙ ap₂ bit_xor (num-product a b hb) (num-product a c hc)))

pub product_xor_left : (a b c : List ℕ) → Block a → Block b → Block c → product (xor_bytes a b) c ≡ xor_bytes (product a c) (product b c)
product_xor_left a b c ha hb hc =
    product_comm (xor_bytes a b) c (block-xor a b ha hb) hc ∙ product_xor_right c a b ha hb
    ∙ ap₂ xor_bytes (product_comm c a hc ha) (product_comm c b hc hb)

pub product-one : (a : List ℕ) → Block a → product a one ≡ a
product-one a ha =
    sym (product_is a one a block_one ha (sym (ap (mul 127 0x87 (num a)) num-one ∙ mul-one 127 0x87 (num a) (block-lt a ha))))

pub product-zero : (a : List ℕ) → product a (zeros 16) ≡ zeros 16
unfolding xor_bytes
product-zero a =
    product_xor_right a (zeros 16) (zeros 16) block-zero block-zero ∙ xor_bytes_self (product a (zeros 16)) ∙ ap zeros (block-product a (zeros 16)).long

-- ---- a jump of a factor is a jump of the product

product-jump : (n : ℕ) (a b : List ℕ) → Block b → product a (jump n b) ≡ jump n (product a b)
product-jump n a b hb =
    same_block (block-product a (jump n b)) (block-jump n (product a b) (block-product a b))
    (num-product a (jump n b) (block-jump n b hb) ∙ ap (mul 127 0x87 (num a)) (num-jump n b hb) ∙ mul-steps 127 0x87 n (num a) (num b)
    ∙ sym (num-jump n (product a b) (block-product a b) ∙ ap (steps 127 0x87 n) (num-product a b hb)))

product-over_x : (a b : List ℕ) → Block b → product a (over_x b) ≡ over_x (product a b)
unfolding jump
product-over_x a b hb =
    sym (over_times (product a (over_x b)) (block-product a (over_x b)))
    ∙ ap over_x (sym (product-jump 1 a (over_x b) (block-over_x b hb)) ∙ ap (product a) (times_over b hb))

pub product-jump_by : (d : ℤ) (a b : List ℕ) → Block b → product a (jump_by d b) ≡ jump_by d (product a b)
unfolding jump_by
product-jump_by (pos n) a b hb = product-jump n a b hb
product-jump_by (negsuc zero) a b hb = product-over_x a b hb
product-jump_by (negsuc (suc n)) a b hb =
    product-over_x a (jump_by (negsuc n) b) (block-jump_by (negsuc n) b hb) ∙ ap over_x (product-jump_by (negsuc n) a b hb)

-- the product with x^d is the jump by d
pub product-power : (d : ℤ) (b : List ℕ) → Block b → product (power d) b ≡ jump_by d b
unfolding power
product-power d b hb =
    product_comm (jump_by d one) b (block-jump_by d one block_one) hb ∙ product-jump_by d b one block_one ∙ ap (jump_by d) (product-one b hb)
