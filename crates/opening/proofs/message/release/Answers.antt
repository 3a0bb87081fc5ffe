-- Nothing where the last block is not padded, or the output has no room; else what is written.
use borrow.Author.Rules.{rules}
use mathlib.Core.Path.{◌≡◌, sym, ap, ◌∙◌}
use mathlib.Core.List.{◌++◌}
use Prim.Native.Nat.{ℕ, ◌+◌, ◌-◌}
use native.Mathlib.Omega.{arith}
use lib.ListN.{length, take}
use Rattle.blocks.specs.Bytes.{zeros}
use Rattle.blocks.specs.Words.{bytes_of}
use Rattle.blocks.proofs.Bridge.{block-bytes_of}
use Rattle.cipher.specs.Keys.{key_of}
use Rattle.std.specs.Prelude.{Ok}
use Rattle.opening.specs.Work.{front_of}
use Rattle.opening.proofs.Padding.{end_within}
use Rattle.opening.proofs.Passes.{front_long, front-whole}
use Rattle.opening.proofs.Opening.{nothing-released, short_of_room, message_released}
use Rattle.opening.proofs.message.release.Goals as goal

pub overflow_add-length : goal.overflow_add-length
overflow_add-length c =
    let long : length c.args.last ≡ 16 = search rules in
    record { fits = omega (arith, end_within c.args.last long c.in-Some.end c.in-Some.ensures, c.requires.ciphertext.least, c.well_formed) }

pub returns-in_default : goal.returns-in_default
returns-in_default c =
    let a = c.args in
    let long : length a.last ≡ 16 = search rules in
    let w = front-whole a.text.now c.requires.ciphertext (key_of a.keys.now) (bytes_of a.start) c.requires.expanded.size (block-bytes_of a.start).long in
    let r = nothing-released (front_of (key_of a.keys.now) (bytes_of a.start) a.text.now) a.last (length a.out.now) w long c.in_default.ensures in
    record {
      answer = r.0;
      output = c.requires.fresh.zero ∙ r.1;
    }

pub returns-then-out-length : goal.returns-then-out-length
returns-then-out-length c =
    let a = c.args in
    let long : length a.last ≡ 16 = search rules in
    let size = front_long a.text.now c.requires.ciphertext (key_of a.keys.now) (bytes_of a.start) c.requires.expanded.size (block-bytes_of a.start).long in
    let w = front-whole a.text.now c.requires.ciphertext (key_of a.keys.now) (bytes_of a.start) c.requires.expanded.size (block-bytes_of a.start).long in
    let r = short_of_room (front_of (key_of a.keys.now) (bytes_of a.start) a.text.now) a.last (length a.out.now) w long c.in-Some.end c.in-Some.ensures (omega (arith, size, c.if-out-length.true)) in
    record {
      answer = r.0;
      output = c.requires.fresh.zero ∙ r.1;
    }

pub write-requires : goal.write-requires
write-requires c =
    let long : length c.args.last ≡ 16 = search rules in
    record {
      expanded = c.requires.expanded;
      ciphertext = c.requires.ciphertext;
      fresh = c.requires.fresh;
      end_bound = omega (arith, end_within c.args.last long c.in-Some.end c.in-Some.ensures);
      end_in_bounds = omega (arith, c.if-out-length.false);
    }

pub returns : goal.returns
returns c =
    let a = c.args in
    let end = c.in-Some.end in
    let front = front_of (key_of a.keys.now) (bytes_of a.start) a.text.now in
    let long : length a.last ≡ 16 = search rules in
    let n = front_long a.text.now c.requires.ciphertext (key_of a.keys.now) (bytes_of a.start) c.requires.expanded.size (block-bytes_of a.start).long in
    let w = front-whole a.text.now c.requires.ciphertext (key_of a.keys.now) (bytes_of a.start) c.requires.expanded.size (block-bytes_of a.start).long in
    let r = message_released front a.last (length a.out.now) w long end c.in-Some.ensures (omega (arith, n, c.if-out-length.false)) in
    record {
      answer = ap (λ (k : ℕ). Ok (k + end)) (sym n) ∙ r.0;
      output = c.write.ensures ∙ ap (λ (k : ℕ). front ++ take end a.last ++ zeros (length a.out.now - (k + end))) (sym n) ∙ r.1;
    }
