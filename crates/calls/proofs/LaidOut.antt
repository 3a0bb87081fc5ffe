-- Runs laid out: lengths, blocks, and the table's conditions by the length.
use mathlib.Core.Path.{◌≡◌, refl, sym, ap, ap₂, ◌∙◌}
use mathlib.Core.Bool.{Bool, true, false, not}
use mathlib.Core.List.{List, [], ◌∷◌}
use Prim.Native.Nat.{ℕ, ◌+◌, ◌*◌, ◌/◌, ◌%◌, ◌≤◌}
use native.Mathlib.Omega.{arith}
use lib.ListN.{length}
use lib.Dec.{eqb}
use borrow.Author.Tests.{eq-eqb}
use Rattle.blocks.specs.Bytes.{first_blocks}
use Rattle.gf128.specs.Gf128.{jump}
use Rattle.gf128.proofs.TimesX.{length-jump}
use Rattle.mode.specs.Mode.{plaintext, zero_block, start_mask, blocks_of, padded}
use Rattle.mode.specs.Aes.{aes}
use Rattle.fips197.specs.Aes.{KeyLength}
use Rattle.mode.specs.Table.{not_key, not16, unaligned, beyond, zero_mask}
use Rattle.mode.specs.Calls.{Kind, blocks_of_run, unaligned_run, check_run_rows, pass_from}
use Rattle.mode.proofs.Aes.{aes_lawful}
use Rattle.mode.proofs.Blocks.{length-padded, count_middle, run_long}
use Rattle.mode.proofs.Laws.{start-long}
use Rattle.mode.proofs.Runs.{output-long}
use Rattle.runs.proofs.Text.{whole-blocks}
use Rattle.calls.specs.Layout.{kind_of, laid_out, laid_out_length}
use Rattle.calls.specs.Work.{run_rows}

pub length-laid_out : (l : Bool) (bytes : List ℕ) → length (laid_out l bytes) ≡ laid_out_length l (length bytes)
unfolding laid_out laid_out_length
length-laid_out true bytes = length-padded bytes ∙ omega arith
length-laid_out false bytes = refl

pub blocks-laid_out : (l : Bool) (bytes : List ℕ) → blocks_of_run (kind_of l) bytes ≡ blocks_of (laid_out l bytes)
unfolding kind_of laid_out blocks_of_run
blocks-laid_out true bytes = refl
blocks-laid_out false bytes = refl

pub count_laid_out : (l : Bool) (bytes : List ℕ) → length (blocks_of_run (kind_of l) bytes) ≡ laid_out_length l (length bytes) / 16
count_laid_out l bytes = ap length (blocks-laid_out l bytes) ∙ count_middle (laid_out l bytes) ∙ ap (λ (n : ℕ). n / 16) (length-laid_out l bytes)

unaligned-laid_out : (l : Bool) (bytes : List ℕ) → not (eqb (laid_out_length l (length bytes) % 16) 0) ≡ unaligned_run (kind_of l) bytes
unfolding kind_of laid_out_length unaligned_run unaligned
unaligned-laid_out true bytes = ap not (eq-eqb ((length bytes / 16 * 16 + 16) % 16) 0 (omega arith))
unaligned-laid_out false bytes = refl

aligned_run : (l : Bool) (bytes : List ℕ) → laid_out_length l (length bytes) % 16 ≡ 0 → unaligned_run (kind_of l) bytes ≡ false
aligned_run l bytes h = sym (unaligned-laid_out l bytes) ∙ ap not (eq-eqb (laid_out_length l (length bytes) % 16) 0 h)

-- the rows that sealing and checking share: by the bytes, and by the length
abbrev pub shared_rows : List ℕ → List ℕ → ℕ → Kind → List ℕ → List (ℕ × Bool)
shared_rows key iv first kind bytes =
    (1, not_key key)
    ∷ (2, not16 iv)
    ∷ (3, unaligned_run kind bytes)
    ∷ (4, beyond first (length (blocks_of_run kind bytes)))
    ∷ (10, zero_mask aes key iv)
    ∷ []

pub shared_rows_lem : (key iv : List ℕ) (first : ℕ) (l : Bool) (bytes : List ℕ)
    → run_rows key iv first (laid_out_length l (length bytes)) ≡ shared_rows key iv first (kind_of l) bytes
shared_rows_lem key iv first l bytes =
    ap₂ (λ (three four : Bool). (1, not_key key) ∷ (2, not16 iv) ∷ (3, three) ∷ (4, four) ∷ (10, zero_mask aes key iv) ∷ [])
    (unaligned-laid_out l bytes) (ap (beyond first) (sym (count_laid_out l bytes)))

pub check_rows : (key iv : List ℕ) (first : ℕ) (bytes : List ℕ) → run_rows key iv first (length bytes) ≡ check_run_rows aes key iv first bytes
unfolding kind_of laid_out_length unaligned_run blocks_of_run
check_rows key iv first bytes = shared_rows_lem key iv first false bytes

-- its blocks, as a run takes them: of the bytes with their padding
pub blocks_there : (l : Bool) (bytes : List ℕ) → first_blocks (laid_out_length l (length bytes) / 16) (padded bytes) ≡ blocks_of (laid_out l bytes)
unfolding laid_out laid_out_length blocks_of
blocks_there true bytes = ap (λ (n : ℕ). first_blocks n (padded bytes)) (let e : (length bytes / 16 * 16 + 16) / 16 ≡ length (padded bytes) / 16 = omega (arith, length-padded bytes) in e)
blocks_there false bytes = whole-blocks (length bytes / 16) bytes (omega arith)

pub blocks_within : (l : Bool) (n : ℕ) → laid_out_length l n / 16 ≤ n / 16 + 1
unfolding laid_out_length
blocks_within true n = omega arith
blocks_within false n = omega arith

-- the ciphertext of a run is as long as the run laid out
pub run_output_long : (key iv : List ℕ) (first : ℕ) (l : Bool) (bytes : List ℕ) → KeyLength key → length iv ≡ 16 → laid_out_length l (length bytes) % 16 ≡ 0
    → length (pass_from aes plaintext key iv first (blocks_of_run (kind_of l) bytes)).output ≡ laid_out_length l (length bytes)
unfolding pass_from
run_output_long key iv first l bytes hk hi h =
    output-long aes aes_lawful key hk (blocks_of_run (kind_of l) bytes) (jump first (start_mask aes key iv)) zero_block (run_long (kind_of l) bytes (aligned_run l bytes h))
    (length-jump first (start_mask aes key iv) (start-long aes aes_lawful plaintext key hk iv hi))
    ∙ omega (arith, count_laid_out l bytes)
