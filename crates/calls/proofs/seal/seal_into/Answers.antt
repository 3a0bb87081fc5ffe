-- The IV, then the text sealed behind it, then the tag.
use mathlib.Core.Path.{◌≡◌, sym, ap, ap₂, ◌∙◌}
use mathlib.Core.Bool.{true}
use mathlib.Core.List.{List, ◌++◌, append_assoc}
use Prim.Native.Nat.{ℕ, ◌+◌, ◌-◌, ◌*◌, ◌/◌, ◌%◌, ◌≤◌}
use native.Mathlib.Omega.{arith}
use lib.ListN.{length, take, drop, length-append}
use lib.Seq.{take_at, drop_at}
use Rattle.blocks.specs.Bytes.{zeros, Fresh}
use Rattle.fips197.specs.Aes.{KeyLength}
use Rattle.blocks.specs.Words.{bytes_of}
use Rattle.mode.specs.Mode.{Finish, start_mask, finish_named, overhead, Pass, plaintext, zero_block, blocks_of, padded, pass, unbroken, unbroken_tag, sealed_record}
use Rattle.mode.specs.Aes.{aes}
use Rattle.mode.proofs.Aes.{aes_lawful}
use Rattle.mode.specs.Calls.{held_tag}
use Rattle.mode.proofs.Finishes.{both, held_front}
use Rattle.mode.proofs.Blocks.{long-blocks, length-padded, count_last}
use Rattle.mode.proofs.SealedLength.{unbroken-output-long, unbroken_tag_long}
use Rattle.cipher.specs.Keys.{key_of}
use Rattle.blocks.proofs.Parts.{back_is, back_put}
use Rattle.calls.specs.Layout.{laid_out, laid_out_length}
use Rattle.calls.specs.Work.{sealed_length}
use Rattle.blocks.proofs.Zeros.{length-zeros}
use Rattle.blocks.proofs.Parts.{whole_16}
use Rattle.blocks.proofs.Zeros.{stored_front, stored_after}
use Rattle.blocks.proofs.Zeros.{fresh}
use Rattle.calls.proofs.seal.seal_into.Goals as goal

-- the IV in front of zeros: what the output holds before the text is sealed
module _ (iv out v stored : List ℕ) (il : length iv ≡ 16) (fr : Fresh out) (ev : v ≡ take 16 (drop 0 iv)) (es : stored ≡ take 0 out ++ v ++ drop (0 + 16) out) where
  front : stored ≡ iv ++ zeros (length out - 16)
  front =
      stored_front 16 out stored v (length out) fr.zero es
      ∙ ap (λ (z : List ℕ). z ++ zeros (length out - 16)) (ev ∙ whole_16 iv il)

  -- zeros behind it
  part : take (length stored - 16) (drop 16 stored) ≡ zeros (length out - 16)
  part = back_is 16 stored ∙ ap (drop 16) front ∙ drop_at iv (zeros (length out - 16)) 16 il

  part-long : length (take (length stored - 16) (drop 16 stored)) ≡ length out - 16
  part-long = ap length part ∙ length-zeros (length out - 16)

module _ (key iv message : List ℕ) (kl : KeyLength key) (il : length iv ≡ 16) where
  -- the ciphertext
  output : List ℕ
  output = (unbroken aes plaintext key iv (blocks_of (padded message))).output

  -- it is one pass
  whole : (keys start : List ℕ) → key_of keys ≡ key → start ≡ start_mask aes key iv
      → pass aes plaintext (key_of keys) (blocks_of (laid_out true message)) start zero_block ≡ unbroken aes plaintext key iv (blocks_of (padded message))
  unfolding unbroken laid_out
  whole keys start k m = λ i. pass aes plaintext (k i) (blocks_of (padded message)) (m i) zero_block

  front_length : length (iv ++ output) ≡ length message / 16 * 16 + 32
  unfolding output
  front_length =
      length-append iv output
      ∙ ap₂ (λ (x y : ℕ). x + y) il
      (unbroken-output-long aes aes_lawful key kl iv il (blocks_of (padded message)) (long-blocks (padded message) (ap (λ (k : ℕ). k % 16) (length-padded message) ∙ omega arith))
      ∙ ap (λ (k : ℕ). 16 * k) (count_last message))
      ∙ omega arith

  module _ (out v stored : List ℕ) (fr : Fresh out) (ev : v ≡ take 16 (drop 0 iv)) (es : stored ≡ take 0 out ++ v ++ drop (0 + 16) out) where
    -- the IV, the ciphertext and zeros
    text : (new keys start : List ℕ) → key_of keys ≡ key → start ≡ start_mask aes key iv
        → new ≡ (pass aes plaintext (key_of keys) (blocks_of (laid_out true message)) start zero_block).output
        ++ zeros (length (take (length stored - 16) (drop 16 stored)) - laid_out_length true (length message))
        → take 16 stored ++ (new ++ drop (length stored - 16) (drop 16 stored)) ≡ iv ++ output ++ zeros (length out - 16 - (length message / 16 * 16 + 16))
    unfolding laid_out_length output
    text new keys start k m w =
        back_put 16 stored new
        ∙ ap₂ (λ (x y : List ℕ). x ++ y) (ap (take 16) (front iv out v stored il fr ev es) ∙ take_at iv (zeros (length out - 16)) 16 il)
        (w ∙ ap₂ (λ (p : Pass) (k : ℕ). p.output ++ zeros (k - (length message / 16 * 16 + 16))) (whole keys start k m) (part-long iv out v stored il fr ev es))
        ∙ sym (append_assoc iv output (zeros (length out - 16 - (length message / 16 * 16 + 16))))

pub seal_text-chain-requires : goal.seal_text-chain-requires
unfolding laid_out_length
seal_text-chain-requires c =
    let a = c.args in
    let q = c.requires in
    let z = part a.iv.now a.out.now c.load-v.result c.store.new.d q.iv_len q.fresh c.load-v.ensures c.store.ensures in
    record {
      expanded = c.prepare-p.ensures.expanded.schedule;
      fresh = fresh (length a.out.now - 16) _ z;
      bytes_in_bounds = omega (arith, ap length z ∙ length-zeros (length a.out.now - 16), q.message_in_bounds);
      bytes_value = omega arith;
    }

pub tag-tag-requires : goal.tag-tag-requires
tag-tag-requires c = c.prepare-p.ensures.expanded

-- all that is written has room
room_for : (t : Finish) (message out : List ℕ) (at : ℕ) → sealed_length t (length message) ≤ length out → at ≡ laid_out_length true (length message) → at + overhead t ≤ length out
unfolding laid_out_length
room_for t message out at h e = omega (arith, e, h)

pub overflow_add-at : goal.overflow_add-at
overflow_add-at c =
    let a = c.args in
    omega (arith, room_for (finish_named a.finish) a.message.now a.out.now c.laid_out_length-at.result c.requires.message_in_bounds c.laid_out_length-at.ensures, c.well_formed.1.1.1.1.0.0)

pub put-requires : goal.put-requires
unfolding laid_out_length
put-requires c =
    let a = c.args in
    let q = c.requires in
    let x = c.seal_text-chain in
    let t = text a.key.now a.iv.now a.message.now q.key_length q.iv_len a.out.now c.load-v.result c.store.new.d q.fresh c.load-v.ensures c.store.ensures x.new.out c.prepare-p.result.keys (bytes_of c.prepare-p.result.start) c.prepare-p.ensures.expanded.of c.prepare-p.ensures.started x.ensures.written in
    let r = length a.out.now - 16 - (length a.message.now / 16 * 16 + 16) in
    let o = output a.key.now a.iv.now a.message.now q.key_length q.iv_len in
    let l = ap length t ∙ length-append (a.iv.now ++ o) (zeros r) ∙ ap₂ (λ (x y : ℕ). x + y) (front_length a.key.now a.iv.now a.message.now q.key_length q.iv_len) (length-zeros r) in
    omega (arith, l, c.laid_out_length-at.ensures, q.message_in_bounds)

pub overflow_add-result : goal.overflow_add-result
overflow_add-result c =
    let a = c.args in
    omega (arith, room_for (finish_named a.finish) a.message.now a.out.now c.laid_out_length-at.result c.requires.message_in_bounds c.laid_out_length-at.ensures, c.tag_length.ensures, c.well_formed.1.1.1.1.0.0)

pub returns : goal.returns
unfolding laid_out_length sealed_record unbroken_tag output
returns c =
    let a = c.args in
    let q = c.requires in
    let x = c.seal_text-chain in
    let f = finish_named a.finish in
    let room = length a.out.now in
    let n = length a.message.now in
    let o = output a.key.now a.iv.now a.message.now q.key_length q.iv_len in
    let w = whole a.key.now a.iv.now a.message.now q.key_length q.iv_len c.prepare-p.result.keys (bytes_of c.prepare-p.result.start) c.prepare-p.ensures.expanded.of c.prepare-p.ensures.started in
    let t = text a.key.now a.iv.now a.message.now q.key_length q.iv_len a.out.now c.load-v.result c.store.new.d q.fresh c.load-v.ensures c.store.ensures x.new.out c.prepare-p.result.keys (bytes_of c.prepare-p.result.start) c.prepare-p.ensures.expanded.of c.prepare-p.ensures.started x.ensures.written in
    let e : c.laid_out_length-at.result + 16 + c.tag_length.result ≡ sealed_length f n = omega (arith, c.laid_out_length-at.ensures, c.tag_length.ensures) in
    let g : length (a.iv.now ++ o) ≡ c.laid_out_length-at.result + 16 = front_length a.key.now a.iv.now a.message.now q.key_length q.iv_len ∙ omega (arith, c.laid_out_length-at.ensures) in
    let r : room - 16 - (n / 16 * 16 + 16) - f.tag_length ≡ room - sealed_length f n = omega arith in
    let bs = blocks_of (padded a.message.now) in
    let tag = unbroken_tag f aes plaintext a.key.now a.iv.now bs in
    let long : length tag ≡ f.tag_length = unbroken_tag_long aes aes_lawful a.key.now q.key_length a.iv.now q.iv_len f (both aes aes_lawful a.finish) plaintext bs (long-blocks (padded a.message.now) (ap (λ (k : ℕ). k % 16) (length-padded a.message.now) ∙ omega arith)) in
    let h : c.tag-tag.result ≡ held_tag tag =
    c.tag-tag.ensures ∙ ap₂ (λ (p m : List ℕ). held_tag (f.tag_from aes a.key.now p m)) (x.ensures.authenticated ∙ ap (λ (z : Pass). z.preauthenticator) w) (x.ensures.masked ∙ ap (λ (z : Pass). z.mask) w) in
    let k : take f.tag_length c.tag-tag.result ≡ tag = ap (take f.tag_length) h ∙ held_front tag f.tag_length long in record {
      answer = e;
      output = stored_after f.tag_length (a.iv.now ++ o) _ c.put.new.out (take f.tag_length c.tag-tag.result) (c.laid_out_length-at.result + 16) (room - 16 - (n / 16 * 16 + 16)) g t c.put.ensures
          ∙ ap₂ (λ (x : List ℕ) (k : ℕ). a.iv.now ++ o ++ x ++ zeros k) k r;
    }
