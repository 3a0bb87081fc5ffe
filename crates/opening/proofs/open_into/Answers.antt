-- The tag decides row 6; what it leaves is released.
use mathlib.Core.Path.{◌≡◌, refl, sym, ap, ap₂, ◌∙◌}
use mathlib.Core.Bool.{Bool}
use mathlib.Core.List.{List, ◌++◌}
use Prim.Native.Nat.{ℕ, ◌+◌, ◌-◌, ◌≤◌}
use native.Mathlib.Omega.{arith}
use lib.ListN.{length, take, drop}
use Rattle.blocks.specs.Bytes.{zeros, same, Fresh}
use Rattle.blocks.specs.Words.{bytes_of}
use Rattle.blocks.proofs.Parts.{back_is}
use Rattle.blocks.proofs.Zeros.{fresh}
use Rattle.cipher.specs.Keys.{key_of}
use Rattle.mode.specs.declared.finish.Finish.{Finish as Named}
use Rattle.mode.specs.declared.refusal.Refusal.TheVariants.{TagDiffers}
use Rattle.mode.specs.Table.{first_row}
use Rattle.mode.specs.Mode.{start_mask, finish_named, overhead, ciphertext, zero_block, blocks_of, pass, unbroken, unbroken_tag, iv_part, cipher_part, tag_part}
use Rattle.mode.specs.Aes.{aes}
use Rattle.mode.specs.Calls.{Outcome, decrypted, open_sealed, plaintext_of, held_tag, written_of}
use Rattle.opening.specs.Work.{open_first_rows, Checks, Ciphertext, front_of, released}
use Rattle.mode.proofs.Aes.{aes_lawful}
use Rattle.mode.proofs.Blocks.{long-blocks}
use Rattle.mode.proofs.Finishes.{both, tag_within, held_front}
use Rattle.mode.proofs.SealedLength.{unbroken_tag_long}
use Rattle.mode.proofs.Answers.{named, refused_written, refused_output}
use Rattle.opening.proofs.Opening.{Lengths, lengths_passed, is_ciphertext, length-iv, length_tag, tag_differs, tag_right}
use Rattle.opening.proofs.open_into.Goals as goal

-- what is known of a record where none of the first rows holds
module _ (finish : Named) (key sealed : List ℕ) (none : first_row (open_first_rows (finish_named finish) key sealed) ≡ 0) where
  passed : Lengths (finish_named finish) key sealed
  passed = lengths_passed (finish_named finish) key sealed none

  iv-long : length (take 16 sealed) ≡ 16
  iv-long = length-iv (finish_named finish) key sealed passed

  -- of a tag of n bytes
  module _ (n : ℕ) (en : n ≡ (finish_named finish).tag_length) where
    -- a block at least, beside IV and tag
    least : 32 + n ≤ length sealed
    least = omega (arith, en, passed.least)

    -- the ciphertext's part of the record, and the tag's
    text_is : take (length sealed - n - 16) (drop 16 sealed) ≡ cipher_part (finish_named finish) sealed
    unfolding cipher_part
    text_is = ap (λ (k : ℕ). take k (drop 16 sealed)) (let e : length sealed - n - 16 ≡ length sealed - overhead (finish_named finish) = omega (arith, en) in e)

    tag_is : take (length sealed - (length sealed - n)) (drop (length sealed - n) sealed) ≡ tag_part (finish_named finish) sealed
    unfolding tag_part
    tag_is = back_is (length sealed - n) sealed ∙ ap (λ (k : ℕ). drop (length sealed - k) sealed) en

    whole-blocks-there : Ciphertext (take (length sealed - n - 16) (drop 16 sealed))
    whole-blocks-there = is_ciphertext (finish_named finish) key sealed _ passed text_is

    tag-within : length (take (length sealed - (length sealed - n)) (drop (length sealed - n) sealed)) ≤ 20
    tag-within = omega (arith, ap length tag_is, length_tag (finish_named finish) sealed passed.least, tag_within finish)

    -- the comparison is the one of the mode's tag with the record's
    tags : (right : Bool) (start tag last : List ℕ) → start ≡ start_mask aes key (take 16 sealed)
        → Checks (finish_named finish) key start (take (length sealed - n - 16) (drop 16 sealed)) tag last
        → right ≡ same (take (length (take (length sealed - (length sealed - n)) (drop (length sealed - n) sealed))) tag) (take (length sealed - (length sealed - n)) (drop (length sealed - n) sealed))
        → right ≡ same (unbroken_tag (finish_named finish) aes ciphertext key (iv_part sealed) (blocks_of (cipher_part (finish_named finish) sealed))) (tag_part (finish_named finish) sealed)
    unfolding unbroken_tag unbroken iv_part
    tags right start tag last es checks er =
        let t = finish_named finish in
        let bs = blocks_of (cipher_part t sealed) in
        let aligned = (is_ciphertext t key sealed (cipher_part t sealed) passed refl).aligned in
        let long : length (unbroken_tag t aes ciphertext key (iv_part sealed) bs) ≡ length (tag_part t sealed) =
        unbroken_tag_long aes aes_lawful key passed.key-long (iv_part sealed) iv-long t (both aes aes_lawful finish) ciphertext bs (long-blocks (cipher_part t sealed) aligned) ∙ sym (length_tag t sealed passed.least) in
        let given : tag ≡ held_tag (unbroken_tag t aes ciphertext key (iv_part sealed) bs) =
        checks.tagged
        ∙ ap₂ (λ (x m : List ℕ). held_tag (t.tag_from aes key (pass aes ciphertext key (blocks_of x) m zero_block).preauthenticator (pass aes ciphertext key (blocks_of x) m zero_block).mask)) text_is es in
        er
        ∙ ap (λ (g : List ℕ). same (take (length g) tag) g) tag_is
        ∙ ap (λ (y : List ℕ). same y (tag_part t sealed)) (ap (take (length (tag_part t sealed))) given ∙ held_front (unbroken_tag t aes ciphertext key (iv_part sealed) bs) (length (tag_part t sealed)) long)

-- the first pass left the output as it was
untouched : (out new : List ℕ) → new ≡ out → Fresh out → new ≡ zeros (length out)
untouched out new e f = e ∙ f.zero

pub slice_bounds-prepare-end : goal.slice_bounds-prepare-end
slice_bounds-prepare-end c = let a = c.args in sym (iv-long a.finish a.key.now a.sealed.now c.requires.sealed_value)

pub prepare-p-requires : goal.prepare-p-requires
prepare-p-requires c =
    let a = c.args in
    record {
      key_length = (passed a.finish a.key.now a.sealed.now c.requires.sealed_value).key-long;
      iv_len = iv-long a.finish a.key.now a.sealed.now c.requires.sealed_value;
    }

pub overflow_sub-stop : goal.overflow_sub-stop
overflow_sub-stop c = let a = c.args in omega (arith, least a.finish a.key.now a.sealed.now c.requires.sealed_value c.tag_length.result c.tag_length.ensures)

pub slice_bounds-text-count : goal.slice_bounds-text-count
slice_bounds-text-count c = let a = c.args in omega (arith, least a.finish a.key.now a.sealed.now c.requires.sealed_value c.tag_length.result c.tag_length.ensures)

pub slice_bounds-text-start : goal.slice_bounds-text-start
slice_bounds-text-start c = let a = c.args in omega (arith, least a.finish a.key.now a.sealed.now c.requires.sealed_value c.tag_length.result c.tag_length.ensures)

pub slice_bounds-text-end : goal.slice_bounds-text-end
slice_bounds-text-end c = let a = c.args in omega (arith, least a.finish a.key.now a.sealed.now c.requires.sealed_value c.tag_length.result c.tag_length.ensures)

pub check-checked-requires : goal.check-checked-requires
check-checked-requires c =
    let a = c.args in
    record {
      expands = c.prepare-p.ensures.expanded;
      ciphertext = whole-blocks-there a.finish a.key.now a.sealed.now c.requires.sealed_value c.tag_length.result c.tag_length.ensures;
    }

pub is_tag-requires : goal.is_tag-requires
is_tag-requires c = let a = c.args in tag-within a.finish a.key.now a.sealed.now c.requires.sealed_value c.tag_length.result c.tag_length.ensures

pub returns-then-not-is_tag : goal.returns-then-not-is_tag
unfolding open_sealed
returns-then-not-is_tag c =
    let a = c.args in
    let room = length a.out.now in
    let k = c.check-checked in
    let same-tags = tags a.finish a.key.now a.sealed.now c.requires.sealed_value c.tag_length.result c.tag_length.ensures c.is_tag.result (bytes_of c.prepare-p.result.start) k.result.tag k.result.last c.prepare-p.ensures.started k.ensures.answer c.is_tag.ensures in
    let d = tag_differs (finish_named a.finish) a.key.now a.sealed.now room c.requires.sealed_value (sym same-tags ∙ c.if-not-is_tag.true) in
    record {
      answer = refused_written _ _ room d (sym (named TagDiffers));
      output = untouched a.out.now k.new.out k.ensures.output c.requires.fresh ∙ refused_output _ _ room d;
    }

pub release-requires : goal.release-requires
release-requires c =
    let a = c.args in
    let k = c.check-checked in
    record {
      expanded = c.prepare-p.ensures.expanded.schedule;
      ciphertext = whole-blocks-there a.finish a.key.now a.sealed.now c.requires.sealed_value c.tag_length.result c.tag_length.ensures;
      fresh = fresh (length a.out.now) k.new.out (untouched a.out.now k.new.out k.ensures.output c.requires.fresh);
    }

pub returns : goal.returns
unfolding plaintext_of iv_part
returns c =
    let k = c.check-checked in
    let a = c.args in
    let t = finish_named a.finish in
    let key = a.key.now in
    let sealed = a.sealed.now in
    let room = length a.out.now in
    let p = c.prepare-p in
    let last = k.result.last in
    let text = take (length sealed - c.tag_length.result - 16) (drop 16 sealed) in
    let front = front_of (key_of p.result.keys) (bytes_of p.result.start) text in
    let y = c.release in
    let same-tags = tags a.finish key sealed c.requires.sealed_value c.tag_length.result c.tag_length.ensures c.is_tag.result (bytes_of p.result.start) k.result.tag last p.ensures.started k.ensures.answer c.is_tag.ensures in
    let plain : front ++ last ≡ plaintext_of t aes key sealed =
    ap (λ (x : List ℕ). front_of x (bytes_of p.result.start) text ++ last) p.ensures.expanded.of
    ∙ k.ensures.answer.opened
    ∙ ap₂ (λ (x m : List ℕ). decrypted aes key (blocks_of x) m) (text_is a.finish key sealed c.requires.sealed_value c.tag_length.result c.tag_length.ensures) p.ensures.started in
    let e : released (front ++ last) (length k.new.out) ≡ open_sealed t aes key sealed room =
    ap₂ released plain (ap length k.ensures.output)
    ∙ sym (tag_right t key sealed room c.requires.sealed_value (sym same-tags ∙ c.if-not-is_tag.false)) in
    record {
      answer = y.ensures.answer ∙ ap written_of e;
      output = y.ensures.output ∙ ap (λ (z : Outcome (List ℕ)). z.output) e;
    }
