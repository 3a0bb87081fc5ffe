-- A run over the blocks before the last, a run over the last, and the join of both.
use mathlib.Core.Path.{◌≡◌, refl, sym, ap, ap₂, subst, ◌∙◌}
use mathlib.Core.List.{List, ◌∷◌, [], ◌++◌}
use Prim.Native.Nat.{ℕ, ◌-◌, ◌/◌}
use native.Mathlib.Omega.{arith}
use lib.ListN.{length, take, drop}
use Rattle.blocks.specs.Bytes.{zeros, xor_bytes, first_blocks}
use Rattle.blocks.specs.Words.{bytes_of}
use Rattle.blocks.proofs.Bridge.{block-bytes_of}
use Rattle.blocks.proofs.Parts.{back_is}
use Rattle.gf128.specs.Gf128.{times_x}
use Rattle.fips197.specs.Aes.{KeyLength}
use Rattle.cipher.specs.Keys.{key_of}
use Rattle.mode.specs.Mode.{finish_named, Pass, ciphertext, zero_block, padded, blocks_of, pass}
use Rattle.mode.specs.Aes.{aes}
use Rattle.mode.specs.Calls.{held_tag}
use Rattle.mode.proofs.Segments.{not_both}
use Rattle.runs.specs.declared.run.Task.TheVariants.{Open, Check}
use Rattle.runs.specs.Task.{writes, wrote}
use Rattle.runs.specs.Run.{ran}
use Rattle.opening.specs.Work.{front_of}
use Rattle.opening.proofs.Passes.{front_taken, last_taken, preauthenticator_whole, mask_whole, plaintext_whole, none_written, all_written}
use Rattle.opening.proofs.check.check.Goals as goal

pub run-before-requires : goal.run-before-requires
unfolding writes
run-before-requires c =
    record {
      expanded = c.requires.expands.schedule;
      count_in_bounds = omega arith;
      room = λ e. not_both e;
    }

pub returns : goal.returns
unfolding ran wrote
returns c =
    let a = c.args in
    let t = finish_named a.finish in
    let h = c.requires.ciphertext in
    let key = a.key.now in
    let start = bytes_of a.start in
    let text = a.text.now in
    let k = c.requires.expands.of in
    let hk : KeyLength key = subst KeyLength k c.requires.expands.schedule.size in
    let hm = (block-bytes_of a.start).long in
    let front = c.run-before in
    let end = c.run-end in
    let p : ran Check (key_of a.keys.now) (first_blocks ((length text - 16) / 16) (padded text)) start zero_block ≡ pass aes ciphertext key (blocks_of (take (length text - 16) text)) start zero_block =
    λ i. ran Check (k i) (front_taken text h i) start zero_block in
    let m = front.ensures.masked ∙ ap (λ (z : Pass). z.mask) p in
    let q : ran Open (key_of a.keys.now) (first_blocks 1 (padded (take (length text - (length text - 16)) (drop (length text - 16) text)))) (bytes_of front.result.mask) zero_block ≡ ran Open key (drop (length text - 16) text ∷ []) (pass aes ciphertext key (blocks_of (take (length text - 16) text)) start zero_block).mask zero_block =
    λ i. ran Open (k i) (last_taken text h _ (back_is (length text - 16) text) i) (m i) zero_block in
    let w = all_written 16 _ (zeros 16) end.new.out refl end.ensures.written ∙ ap (λ (z : Pass). z.output) q in record {
      answer = record {
        tagged =
            c.tag-tag.ensures
            ∙ ap₂ (λ (x u : List ℕ). held_tag (t.tag_from aes key x u))
            (c.bitxor-preauthenticator.ensures
            ∙ ap₂ xor_bytes (c.times_x.ensures ∙ ap times_x (front.ensures.authenticated ∙ ap (λ (z : Pass). z.preauthenticator) p)) (end.ensures.authenticated ∙ ap (λ (z : Pass). z.preauthenticator) q)
            ∙ sym (preauthenticator_whole text h key start hk hm))
            (end.ensures.masked ∙ ap (λ (z : Pass). z.mask) q ∙ sym (mask_whole text h key start hk hm));
        opened = ap (λ (x : List ℕ). front_of key start text ++ x) w ∙ plaintext_whole text h key start hk hm;
        long = end.auto.out;
      };
      output = none_written (ran Check (key_of a.keys.now) (first_blocks ((length text - 16) / 16) (padded text)) start zero_block).output a.out.now front.new.out front.ensures.long front.ensures.written;
    }
