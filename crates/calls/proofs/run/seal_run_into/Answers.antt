-- The run's record and ciphertext, from its text sealed.
use borrow.Author.Rules.{rules}
use mathlib.Core.Path.{◌≡◌, sym, ap, ◌∙◌}
use mathlib.Core.List.{◌++◌}
use Prim.Native.Nat.{ℕ, ◌-◌, ◌/◌}
use native.Mathlib.Omega.{arith}
use lib.ListN.{length}
use Rattle.blocks.specs.Bytes.{zeros}
use Rattle.blocks.specs.Words.{bytes_of}
use Rattle.blocks.proofs.Bridge.{proper_by, words_of_lem}
use Rattle.gf128.specs.Gf128.{jump}
use Rattle.mode.specs.Mode.{Pass, plaintext, zero_block, blocks_of, pass}
use Rattle.mode.specs.Aes.{aes}
use Rattle.mode.specs.Calls.{blocks_of_run, pass_from, run_record}
use Rattle.cipher.specs.Keys.{key_of}
use Rattle.calls.specs.Layout.{kind_of, laid_out, laid_out_length}
use Rattle.calls.proofs.LaidOut.{blocks-laid_out, count_laid_out}
use Rattle.calls.proofs.run.seal_run_into.Goals as goal

pub overflow_cast-count : goal.overflow_cast-count
overflow_cast-count c = omega (arith, c.laid_out_length.ensures, c.requires.bytes_bound)

pub seal_text-chain-requires : goal.seal_text-chain-requires
seal_text-chain-requires c =
    let q = c.prepare-p in
    record {
      expanded = q.ensures.expanded.schedule;
      fresh = c.requires.fresh;
      bytes_in_bounds = c.requires.bytes_in_bounds;
      bytes_value = c.requires.bytes_value;
    }

pub returns : goal.returns
unfolding run_record pass_from
returns c =
    let a = c.args in
    let q = c.prepare-p in
    let x = c.seal_text-chain in
    let y = c.laid_out_length in
    let l = blocks-laid_out a.last a.bytes.now in
    let k = q.ensures.expanded.of in
    let m = c.jump-first_mask.ensures ∙ ap (jump a.first) q.ensures.started in
    let p : pass aes plaintext (key_of q.result.keys) (blocks_of (laid_out a.last a.bytes.now)) (bytes_of c.jump-first_mask.result) zero_block ≡ pass_from aes plaintext a.key.now a.iv.now a.first (blocks_of_run (kind_of a.last) a.bytes.now) =
    λ i. pass aes plaintext (k i) (sym l i) (m i) zero_block in
    let n = ap (λ (z : ℕ). z / 16) y.ensures ∙ sym (count_laid_out a.last a.bytes.now) in
    let w = x.result.preauthenticator in
    let o = x.type_inv.1.1.1.0 in
    let r = words_of_lem w _ (proper_by w (search (rules, o)) (search (rules, o))) (x.ensures.authenticated ∙ ap (λ (z : Pass). z.preauthenticator) p) in record {
      answer = (λ i. record { first = a.first; count = n i; preauthenticator = r i });
      output = x.ensures.written ∙ ap (λ (z : Pass). z.output ++ zeros (length a.out.now - laid_out_length a.last (length a.bytes.now))) p;
    }
