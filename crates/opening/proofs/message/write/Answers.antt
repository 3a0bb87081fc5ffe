-- The blocks before the last, then the bytes of the last, in front of zeros.
use borrow.Author.Rules.{rules}
use mathlib.Core.Path.{◌≡◌, sym, ap, ◌∙◌}
use mathlib.Core.List.{List, ◌++◌}
use Prim.Native.Nat.{ℕ, ◌+◌, ◌-◌, ◌*◌, ◌/◌, ◌≤◌}
use native.Mathlib.Omega.{arith}
use lib.ListN.{length, take}
use lib.Seq.{length-take-le}
use Rattle.blocks.specs.Bytes.{zeros, first_blocks}
use Rattle.blocks.specs.Words.{bytes_of}
use Rattle.blocks.proofs.Bridge.{block-bytes_of}
use Rattle.blocks.proofs.Zeros.{over_zeros, stored_after}
use Rattle.cipher.specs.Keys.{key_of}
use Rattle.mode.specs.Mode.{zero_block, padded}
use Rattle.runs.specs.declared.run.Task.TheVariants.{Open}
use Rattle.runs.specs.Task.{wrote}
use Rattle.runs.specs.Run.{ran}
use Rattle.opening.specs.Work.{front_of}
use Rattle.opening.proofs.Passes.{front_taken, front_long}
use Rattle.opening.proofs.message.write.Goals as goal

-- the bytes of the last block that are the message's
part-long : (last : List ℕ) (end : ℕ) → length last ≡ 16 → end ≤ 16 → length (take end last) ≡ end
part-long last end l h = length-take-le end last (omega (arith, l, h))

pub slice_bounds-put-end : goal.slice_bounds-put-end
slice_bounds-put-end c =
    let l : length c.args.last ≡ 16 = search rules in
    sym (part-long c.args.last c.args.end l (omega (arith, c.requires.end_bound)))

pub put-requires : goal.put-requires
put-requires c =
    let l : length c.args.last ≡ 16 = search rules in
    omega (arith, part-long c.args.last c.args.end l (omega (arith, c.requires.end_bound)), c.run.auto.out, c.requires.end_in_bounds)

pub returns : goal.returns
unfolding ran wrote front_of
returns c =
    let a = c.args in
    let y = c.run in
    let h = c.requires.ciphertext in
    let size = length a.text.now - 16 in
    let room = length a.out.now in
    let front = front_of (key_of a.keys.now) (bytes_of a.start) a.text.now in
    let w : y.new.out ≡ front ++ zeros (room - size) =
    over_zeros (size / 16 * 16) size (ran Open (key_of a.keys.now) (first_blocks (size / 16) (padded a.text.now)) (bytes_of a.start) zero_block).output a.out.now _ (omega (arith, h.least, h.aligned)) c.requires.fresh.zero y.ensures.written
    ∙ ap (λ (b : List (List ℕ)). (ran Open (key_of a.keys.now) b (bytes_of a.start) zero_block).output ++ zeros (room - size)) (front_taken a.text.now h) in
    let l : length c.args.last ≡ 16 = search rules in
    let k = part-long c.args.last c.args.end l (omega (arith, c.requires.end_bound)) in
    stored_after (length (take a.end a.last)) front y.new.out _ (take a.end a.last) size (room - size) (front_long a.text.now h (key_of a.keys.now) (bytes_of a.start) c.requires.expanded.size (block-bytes_of a.start).long) w c.put.ensures
    ∙ ap (λ (n : ℕ). front ++ take a.end a.last ++ zeros n) (let e : room - size - length (take a.end a.last) ≡ room - (size + a.end) = omega (arith, k) in e)
