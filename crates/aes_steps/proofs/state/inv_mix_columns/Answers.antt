use borrow.Author.Rules.{rules}
use mathlib.Core.Path.{◌≡◌, ◌∙◌}
use mathlib.Core.List.{List}
use Prim.Native.Nat.{ℕ, ◌+◌, ◌*◌, ◌%◌, ◌<◌}
use native.Mathlib.Omega.{arith}
use lib.Bits.{bit_xor}
use lib.ListN.{get_or}
use Rattle.blocks.specs.Bytes.{Block}
use Rattle.blocks.proofs.Array.{block-by}
use Rattle.blocks.proofs.Tab.{fill_none, fill_all}
use Rattle.fips197.specs.Gf256.{gmul}
use Rattle.fips197.specs.State.{mix, inv_mix, inv_mix_columns}
use Rattle.fips197.proofs.Mix.{inv_mix-by}
use Rattle.aes_steps.proofs.Columns.{column_stored, column_0, column_1, column_2, column_3}
use Rattle.aes_steps.proofs.state.inv_mix_columns.Invariants.{unmixed}
use Rattle.aes_steps.proofs.state.inv_mix_columns.Goals as goal
use Rattle.aes_steps.proofs.state.inv_mix_columns.Tie as tie
use Rattle.aes_steps.proofs.state.inv_mix_columns.Lts as lts
use Rattle.aes_steps.proofs.state.inv_mix_columns.Reads as reads

abbrev At_start : Type 0
At_start = lts.Start tie.the-claims reads.Pre reads.Post goal.the-invariant-loop-i goal.the-decreases-loop-i

abbrev evened : List ℕ → ℕ → ℕ → ℕ
evened s i k = bit_xor (gmul 0x05 (get_or s i 0)) (gmul 0x04 (get_or s k 0))

-- a column's bytes at the indices i, j, k and l, each evened, and mixed
undone : (s : List ℕ) → Block s → (i j k l : ℕ) {p q r t : ℕ}
    → p ≡ evened s i k → q ≡ evened s j l → r ≡ evened s k i → t ≡ evened s l j
    → mix p q r t ≡ inv_mix (get_or s i 0) (get_or s j 0) (get_or s k 0) (get_or s l 0)
undone s b i j k l ep eq er et =
    inv_mix-by (get_or s i 0) (get_or s j 0) (get_or s k 0) (get_or s l 0) _ _ _ _ (b.bytes i) (b.bytes j) (b.bytes k) (b.bytes l) ep eq er et

block : (c : At_start) → Block c.args.s
block c = block-by c.args.s (search rules) (λ i. search rules)

pub loop-i-init : goal.loop-i-init
loop-i-init c = (search rules, fill_none 16 _)

pub loop-i-preserved : goal.loop-i-preserved
loop-i-preserved c =
    let s = c.args.s in
    let i = c.loop-i.i * 4 in
    let m : i % 4 ≡ 0 = omega arith in
    let l : i < 16 = omega arith in
    let n : (c.loop-i.i + 1) * 4 ≡ i + 4 = omega arith in
    let b : Block s = block c.before.before.before.before.before.before.before.before.before.before in
    let p = c.even-a.ensures in
    let q = c.even-b.ensures in
    let r = c.even-c.ensures in
    let t = c.even-d.ensures in (
      omega arith,
      rw n (column_stored (unmixed s) c.loop-i.r i _ _ _ _ m l c.loop-i.invariant.1
          (c.mix.ensures ∙ undone s b i (i + 1) (i + 2) (i + 3) p q r t ∙ column_0 inv_mix s i m)
          (c.mix-in-loop-i.ensures ∙ undone s b (i + 1) (i + 2) (i + 3) i q r t p ∙ column_1 inv_mix s i m)
          (c.mix-in-loop-i-2.ensures ∙ undone s b (i + 2) (i + 3) i (i + 1) r t p q ∙ column_2 inv_mix s i m)
          (c.mix-in-loop-i-3.ensures ∙ undone s b (i + 3) i (i + 1) (i + 2) t p q r ∙ column_3 inv_mix s i m)),
    )

pub returns : goal.returns
unfolding inv_mix_columns
returns c = fill_all 16 (unmixed c.args.s) (c.loop-i.i * 4) (omega arith) (omega arith) c.loop-i.invariant.1
