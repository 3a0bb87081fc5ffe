-- Where no row of a call that writes holds, the output is long enough.
use mathlib.Core.Path.{◌≡◌}
use mathlib.Core.Bool.{Bool, true, false}
use mathlib.Core.List.{List}
use Prim.Native.Nat.{ℕ, ◌+◌, ◌*◌, ◌/◌, ◌%◌, ◌≤◌}
use native.Mathlib.Omega.{arith}
use lib.Dec.{eqb}
use lib.ListN.{length}
use borrow.Author.Tests.{eqb-true, ltb-false, not-false}
use Rattle.mode.specs.Mode.{finish_named, sealed_record}
use Rattle.mode.specs.declared.finish.Finish.{Finish as Named}
use Rattle.mode.specs.Aes.{aes}
use Rattle.mode.specs.Table.{first_row, limit, unaligned}
use Rattle.mode.specs.Calls.{seal_run_rows, seal_rows, blocks_of_run, unaligned_run}
use Rattle.mode.proofs.Aes.{aes_lawful}
use Rattle.mode.proofs.Finishes.{both}
use Rattle.mode.proofs.Passed.{head_passed, tail_passed, key_passed, iv_16, run_within}
use Rattle.mode.proofs.SealedLength.{sealed_length_lem}
use Rattle.calls.specs.Layout.{kind_of, laid_out_length}
use Rattle.calls.specs.Work.{sealed_length}
use Rattle.calls.proofs.LaidOut.{count_laid_out}

pub run_aligned : (l : Bool) (bytes : List ℕ) → unaligned_run (kind_of l) bytes ≡ false → laid_out_length l (length bytes) % 16 ≡ 0
unfolding kind_of laid_out_length unaligned_run unaligned
run_aligned true bytes e = omega arith
run_aligned false bytes e = eqb-true (length bytes % 16) 0 (not-false (eqb (length bytes % 16) 0) e)

pub run_fits : (key iv : List ℕ) (first : ℕ) (l : Bool) (bytes : List ℕ) (room : ℕ) → first_row (seal_run_rows aes key iv first (kind_of l) bytes room) ≡ 0
    → (laid_out_length l (length bytes) ≤ room) × ((laid_out_length l (length bytes) % 16 ≡ 0) × (laid_out_length l (length bytes) / 16 ≤ limit))
run_fits key iv first l bytes room e =
    let k = count_laid_out l bytes in
    let e₃ = tail_passed 1 _ _ (tail_passed 0 _ _ e) in
    let a = run_aligned l bytes (head_passed 2 _ _ e₃) in
    let f : 16 * length (blocks_of_run (kind_of l) bytes) ≤ room = ltb-false room (16 * length (blocks_of_run (kind_of l) bytes)) (head_passed 4 _ _ (tail_passed 9 _ _ (tail_passed 3 _ _ (tail_passed 2 _ _ e₃)))) in
    let w : first + length (blocks_of_run (kind_of l) bytes) ≤ limit = run_within key iv _ first _ _ e in
    (omega (arith, f, k, a), (a, omega (arith, w, k)))

pub sealed_fits : (n : Named) (key iv message : List ℕ) (room : ℕ) → first_row (seal_rows (finish_named n) aes key iv message room) ≡ 0
    → sealed_length (finish_named n) (length message) ≤ room
sealed_fits n key iv message room e =
    let t = finish_named n in
    let f : length (sealed_record t aes key iv message) ≤ room = ltb-false room (length (sealed_record t aes key iv message)) (head_passed 4 _ _ (tail_passed 9 _ _ (tail_passed 2 _ _ (tail_passed 1 _ _ (tail_passed 0 _ _ e))))) in
    omega (arith, f, sealed_length_lem aes aes_lawful key (key_passed key _ e) iv (iv_16 key iv _ e) t (both aes aes_lawful n) message)
