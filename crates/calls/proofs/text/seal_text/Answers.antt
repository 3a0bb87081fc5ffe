-- The run over the text's blocks, into an output of zeros.
use mathlib.Core.Path.{◌≡◌, ap, ◌∙◌}
use mathlib.Core.List.{List, ◌++◌}
use Prim.Native.Nat.{ℕ, ◌-◌, ◌*◌, ◌/◌}
use native.Mathlib.Omega.{arith}
use lib.ListN.{length}
use Rattle.blocks.specs.Bytes.{zeros, first_blocks}
use Rattle.blocks.specs.Words.{bytes_of}
use Rattle.cipher.specs.Keys.{key_of}
use Rattle.mode.specs.Mode.{Pass, plaintext, zero_block, padded, pass}
use Rattle.mode.specs.Aes.{aes}
use Rattle.runs.specs.Task.{wrote}
use Rattle.runs.specs.Run.{ran}
use Rattle.calls.specs.Layout.{laid_out_length}
use Rattle.calls.proofs.LaidOut.{blocks_there, blocks_within}
use Rattle.blocks.proofs.Zeros.{over_zeros}
use Rattle.calls.proofs.text.seal_text.Goals as goal

pub run-requires : goal.run-requires
run-requires c =
    let e = c.laid_out_length-size.ensures in
    let w = blocks_within c.args.last (length c.args.bytes.now) in
    record {
      expanded = c.requires.expanded;
      count_in_bounds = omega (arith, e, w);
      room = λ h. omega (arith, e, c.requires.bytes_in_bounds);
    }

pub returns : goal.returns
unfolding ran wrote
returns c =
    let a = c.args in
    let e = c.laid_out_length-size.ensures in
    let size = c.laid_out_length-size.result in
    let r = c.run.ensures in
    let bytes = a.bytes.now in
    let left = length a.out.now - laid_out_length a.last (length bytes) in
    let over : List (List ℕ) → Pass = λ bs. pass aes plaintext (key_of a.keys.now) bs (bytes_of a.mask) zero_block in
    let p = ap over (ap (λ (k : ℕ). first_blocks (k / 16) (padded bytes)) e ∙ blocks_there a.last bytes) in
    let n : size / 16 * 16 ≡ laid_out_length a.last (length bytes) = omega (arith, e, c.requires.bytes_value) in
    record {
      written = over_zeros (size / 16 * 16) _ (over (first_blocks (size / 16) (padded bytes))).output a.out.now _ n c.requires.fresh.zero r.written ∙ ap (λ (q : Pass). q.output ++ zeros left) p;
      masked = r.masked ∙ ap (λ (q : Pass). q.mask) p;
      authenticated = r.authenticated ∙ ap (λ (q : Pass). q.preauthenticator) p;
    }
