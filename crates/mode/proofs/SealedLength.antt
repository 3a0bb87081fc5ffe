-- Lengths of ciphertexts, tags and sealed records.
use mathlib.Core.Path.{◌≡◌, refl, ap, ap₂, ◌∙◌}
use mathlib.Core.List.{List, ◌++◌}
use Prim.Native.Nat.{ℕ, ◌+◌, ◌*◌, ◌/◌, ◌%◌}
use native.Mathlib.Omega.{arith}
use lib.ListN.{length, length-append}
use Rattle.blocks.specs.Words.{bytes_of}
use Rattle.blocks.proofs.Bridge.{block-bytes_of}
use Rattle.gf128.specs.Gf128.{jump}
use Rattle.gf128.proofs.TimesX.{length-jump}
use Rattle.fips197.specs.Aes.{KeyLength}
use Rattle.mode.specs.Mode.{Cipher, Lawful, RunRecord, in_words, Finish, LawfulFinish, overhead, Source, plaintext, zero_block, start_mask, pass, unbroken, unbroken_tag, blocks_of, padded, sealed_record}
use Rattle.mode.specs.Calls.{closing_tag}
use Rattle.mode.proofs.Laws.{AllLong, pass_mask, preauthenticator_long, start-long}
use Rattle.mode.proofs.Blocks.{long-blocks, length-padded, count_last}
use Rattle.mode.proofs.Runs.{output-long}

module _ (c : Cipher) (laws : Lawful c) (key : List ℕ) (key-size : KeyLength key) where
  module _ (iv : List ℕ) (iv-long : length iv ≡ 16) where
    pub unbroken-output-long : (bs : List (List ℕ)) → AllLong bs → length (unbroken c plaintext key iv bs).output ≡ 16 * length bs
    unfolding unbroken
    unbroken-output-long bs h = output-long c laws key key-size bs (start_mask c key iv) zero_block h (start-long c laws plaintext key key-size iv iv-long)

    module _ (t : Finish) (finish : LawfulFinish t c) where
      pub unbroken_tag_long : (s : Source) (bs : List (List ℕ)) → AllLong bs → length (unbroken_tag t c s key iv bs) ≡ t.tag_length
      unfolding unbroken_tag unbroken
      unbroken_tag_long s bs h =
          let m = start_mask c key iv in
          let l = start-long c laws s key key-size iv iv-long in
          finish.tag_long key (pass c s key bs m zero_block).preauthenticator (pass c s key bs m zero_block).mask key-size
          (preauthenticator_long c laws s key key-size bs m zero_block h l refl)
          (ap length (pass_mask c laws s key key-size bs m zero_block) ∙ length-jump (length bs) m l)

      -- the tag of a record
      pub closing_tag_long : (r : RunRecord) → length (closing_tag in_words t c key iv r) ≡ t.tag_length
      unfolding closing_tag
      closing_tag_long r =
          finish.tag_long key (bytes_of r.preauthenticator) (jump r.count (start_mask c key iv)) key-size (block-bytes_of r.preauthenticator).long
          (length-jump r.count (start_mask c key iv) (start-long c laws plaintext key key-size iv iv-long))

      pub sealed_length_lem : (m : List ℕ) → length (sealed_record t c key iv m) ≡ length m / 16 * 16 + (16 + overhead t)
      unfolding sealed_record
      sealed_length_lem m =
          let bs = blocks_of (padded m) in
          let h : AllLong (blocks_of (padded m)) = long-blocks (padded m) (ap (λ (k : ℕ). k % 16) (length-padded m) ∙ omega arith) in
          length-append (iv ++ (unbroken c plaintext key iv bs).output) (unbroken_tag t c plaintext key iv bs)
          ∙ ap₂ (λ (x y : ℕ). x + y) (length-append iv (unbroken c plaintext key iv bs).output ∙ ap₂ (λ (x y : ℕ). x + y) iv-long (unbroken-output-long bs h ∙ ap (λ (n : ℕ). 16 * n) (count_last m)))
          (unbroken_tag_long plaintext bs h)
          ∙ omega arith
