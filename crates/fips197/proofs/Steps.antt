-- Each step of a round takes blocks to blocks, and is undone by its inverse, both ways round.
use mathlib.Core.Path.{◌≡◌, sym, ap, ◌∙◌}
use mathlib.Core.List.{List, [], ◌∷◌}
use Prim.Native.Nat.{ℕ, ◌+◌, ◌-◌, ◌*◌, ◌/◌, ◌%◌, ◌<◌}
use lib.ListN.{get_or}
use Rattle.blocks.specs.Bytes.{Block, xor_bytes}
use Rattle.blocks.specs.Tab.{tab}
use Rattle.blocks.proofs.XorBytes.{xor_bytes_cancel}
use Rattle.blocks.proofs.Tab.{get_or-tab, tab_ext, tab_self, block-tab}
use Rattle.fips197.specs.Sbox.{sbox, inv_sbox}
use Rattle.fips197.specs.State.{sub_bytes, inv_sub_bytes, shift_rows, inv_shift_rows, below, mix, inv_mix, mix_columns, inv_mix_columns}
use Rattle.fips197.proofs.Gf256.{gmul-lt}
use Rattle.fips197.proofs.SboxTables.{sbox-lt, inv_sbox-lt, inv_sbox-sbox, sbox-inv_sbox}
use Rattle.fips197.proofs.Mix.{sum4-lt, inv_mix-mix, mix-inv_mix}

-- ---- a function at each byte

pub block-map : (f : ℕ → ℕ) (s : List ℕ) → ((x : ℕ) → x < 256 → f x < 256) → Block s → Block (tab 16 (λ i. f (get_or s i 0)))
block-map f s h b = block-tab (λ i. f (get_or s i 0)) (λ i. h (get_or s i 0) (b.bytes i))

map-map : (f g : ℕ → ℕ) (s : List ℕ) → ((x : ℕ) → x < 256 → f (g x) ≡ x) → Block s → tab 16 (λ i. f (get_or (tab 16 (λ i. g (get_or s i 0))) i 0)) ≡ s
map-map f g s h b =
    tab_ext 16 (λ i. f (get_or (tab 16 (λ i. g (get_or s i 0))) i 0)) (λ i. get_or s i 0)
    (λ i l. ap f (get_or-tab 16 i (λ i. g (get_or s i 0)) l) ∙ h (get_or s i 0) (b.bytes i))
    ∙ tab_self 16 s b.long

pub block-sub : (s : List ℕ) → Block s → Block (sub_bytes s)
unfolding sub_bytes
block-sub s = block-map sbox s sbox-lt

pub block_inv_sub : (s : List ℕ) → Block s → Block (inv_sub_bytes s)
unfolding inv_sub_bytes
block_inv_sub s = block-map inv_sbox s inv_sbox-lt

pub sub_undone : (s : List ℕ) → Block s → inv_sub_bytes (sub_bytes s) ≡ s
unfolding sub_bytes inv_sub_bytes
sub_undone s = map-map inv_sbox sbox s inv_sbox-sbox

pub sub_redone : (s : List ℕ) → Block s → sub_bytes (inv_sub_bytes s) ≡ s
unfolding sub_bytes inv_sub_bytes
sub_redone s = map-map sbox inv_sbox s sbox-inv_sbox

-- ---- bytes moved

pub block_shift : (s : List ℕ) → Block s → Block (shift_rows s)
unfolding shift_rows
block_shift s b = block-tab (λ i. get_or s ((i + i % 4 * 4) % 16) 0) (λ i. b.bytes ((i + i % 4 * 4) % 16))

pub block_inv_shift : (s : List ℕ) → Block s → Block (inv_shift_rows s)
unfolding inv_shift_rows
block_inv_shift s b = block-tab (λ i. get_or s ((i + 16 - i % 4 * 4) % 16) 0) (λ i. b.bytes ((i + 16 - i % 4 * 4) % 16))

pub shift_undone : (s : List ℕ) → Block s → inv_shift_rows (shift_rows s) ≡ s
unfolding shift_rows inv_shift_rows
shift_undone s b = tab_self 16 s b.long

pub shift_redone : (s : List ℕ) → Block s → shift_rows (inv_shift_rows s) ≡ s
unfolding shift_rows inv_shift_rows
shift_redone s b = tab_self 16 s b.long

-- ---- a step on columns, which says each byte alike

-- M at each byte and those below it
abbrev columns : (ℕ → ℕ → ℕ → ℕ → ℕ) → List ℕ → List ℕ
columns M s = tab 16 (λ i. M (below s i 0) (below s i 1) (below s i 2) (below s i 3))

block_columns : (M : ℕ → ℕ → ℕ → ℕ → ℕ) (s : List ℕ) → ((a b c d : ℕ) → a < 256 → b < 256 → c < 256 → d < 256 → M a b c d < 256) → Block s → Block (columns M s)
block_columns M s h b =
    block-tab (λ i. M (below s i 0) (below s i 1) (below s i 2) (below s i 3))
    (λ i. h (below s i 0) (below s i 1) (below s i 2) (below s i 3) (at i 0) (at i 1) (at i 2) (at i 3))
  where
    at : (i j : ℕ) → below s i j < 256
    at i j = b.bytes (i / 4 * 4 + (i + j) % 4)

columns_columns : (M N : ℕ → ℕ → ℕ → ℕ → ℕ) (s : List ℕ)
    → ((a b c d : ℕ) → a < 256 → b < 256 → c < 256 → d < 256 → M (N a b c d) (N b c d a) (N c d a b) (N d a b c) ≡ a) → Block s
    → columns M (columns N s) ≡ s
columns_columns M N s h b = (λ i. at 0 1 2 3 i ∷ at 1 2 3 0 i ∷ at 2 3 0 1 i ∷ at 3 0 1 2 i
    ∷ at 4 5 6 7 i ∷ at 5 6 7 4 i ∷ at 6 7 4 5 i ∷ at 7 4 5 6 i
    ∷ at 8 9 10 11 i ∷ at 9 10 11 8 i ∷ at 10 11 8 9 i ∷ at 11 8 9 10 i
    ∷ at 12 13 14 15 i ∷ at 13 14 15 12 i ∷ at 14 15 12 13 i ∷ at 15 12 13 14 i ∷ []) ∙ tab_self 16 s b.long
  where
    n : ℕ → ℕ → ℕ → ℕ → ℕ
    n a b c d = N (get_or s a 0) (get_or s b 0) (get_or s c 0) (get_or s d 0)

    at : (p q r t : ℕ) → M (n p q r t) (n q r t p) (n r t p q) (n t p q r) ≡ get_or s p 0
    at p q r t = h (get_or s p 0) (get_or s q 0) (get_or s r 0) (get_or s t 0) (b.bytes p) (b.bytes q) (b.bytes r) (b.bytes t)

pub mix-lt : (a b c d : ℕ) → a < 256 → b < 256 → c < 256 → d < 256 → mix a b c d < 256
unfolding mix
mix-lt a b c d ha hb hc hd = sum4-lt _ _ _ _ (gmul-lt 0x02 a ha) (gmul-lt 0x03 b hb) hc hd

pub inv_mix-lt : (a b c d : ℕ) → a < 256 → b < 256 → c < 256 → d < 256 → inv_mix a b c d < 256
unfolding inv_mix
inv_mix-lt a b c d ha hb hc hd = sum4-lt _ _ _ _ (gmul-lt 0x0e a ha) (gmul-lt 0x0b b hb) (gmul-lt 0x0d c hc) (gmul-lt 0x09 d hd)

pub block-mix : (s : List ℕ) → Block s → Block (mix_columns s)
unfolding mix_columns
block-mix s = block_columns mix s mix-lt

pub block-inv_mix : (s : List ℕ) → Block s → Block (inv_mix_columns s)
unfolding inv_mix_columns
block-inv_mix s = block_columns inv_mix s inv_mix-lt

pub mix_undone : (s : List ℕ) → Block s → inv_mix_columns (mix_columns s) ≡ s
unfolding mix_columns inv_mix_columns
mix_undone s = columns_columns inv_mix mix s inv_mix-mix

pub mix_redone : (s : List ℕ) → Block s → mix_columns (inv_mix_columns s) ≡ s
unfolding mix_columns inv_mix_columns
mix_redone s = columns_columns mix inv_mix s mix-inv_mix

-- ---- a round key

pub add_undone : (s k : List ℕ) → Block s → Block k → xor_bytes (xor_bytes s k) k ≡ s
add_undone s k hs hk = xor_bytes_cancel s k (hs.long ∙ sym hk.long)
