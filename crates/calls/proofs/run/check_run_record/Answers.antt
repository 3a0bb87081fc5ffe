-- The record of a run that writes nothing.
use borrow.Author.Rules.{rules}
use mathlib.Core.Path.{sym, ap, ◌∙◌}
use Prim.Native.Nat.{◌/◌}
use native.Mathlib.Omega.{arith}
use lib.ListN.{length}
use Rattle.blocks.proofs.Bridge.{proper_by, words_of_lem}
use Rattle.gf128.specs.Gf128.{jump}
use Rattle.mode.specs.Mode.{ciphertext, zero_block, blocks_of, pass}
use Rattle.mode.specs.Aes.{aes}
use Rattle.mode.specs.Calls.{pass_from, run_record}
use Rattle.mode.proofs.Blocks.{count_middle}
use Rattle.mode.proofs.Segments.{not_both}
use Rattle.runs.specs.Task.{writes}
use Rattle.runs.specs.Run.{ran}
use Rattle.runs.proofs.Text.{whole-blocks}
use Rattle.calls.proofs.run.check_run_record.Goals as goal

pub run-chain-requires : goal.run-chain-requires
unfolding writes
run-chain-requires c =
    record {
      expanded = c.prepare-p.ensures.expanded.schedule;
      count_in_bounds = omega arith;
      room = λ e. not_both e;
    }

pub overflow_cast-result : goal.overflow_cast-result
overflow_cast-result c = omega (arith, c.requires.bytes_len_bound)

pub returns : goal.returns
unfolding run_record pass_from blocks_of ran
returns c =
    let a = c.args in
    let bytes = a.bytes.now in
    let k = c.prepare-p.ensures.expanded.of in
    let m = c.jump-mask.ensures ∙ ap (jump a.first) c.prepare-p.ensures.started in
    let y = c.run-chain in
    let bs = whole-blocks (length bytes / 16) bytes (omega arith) in
    let p = y.ensures.authenticated ∙ (λ i. (pass aes ciphertext (k i) (bs i) (m i) zero_block).preauthenticator) in
    let w = y.result.preauthenticator in
    let o = y.type_inv.1.1.1.0 in
    let e = words_of_lem w _ (proper_by w (search (rules, o)) (search (rules, o))) p in
    λ i. record { first = a.first; count = sym (count_middle bytes) i; preauthenticator = e i }
