-- Records in words: what the bridge gives back, and the record of adjoining blocks is the join of their records.
use mathlib.Core.Path.{◌≡◌, refl, sym, ap, ap₂, ◌∙◌}
use mathlib.Core.List.{List, ◌++◌}
use Prim.Native.Nat.{ℕ}
use lib.ListN.{length, length-append}
use Rattle.blocks.specs.Bytes.{Block, xor_bytes}
use Rattle.blocks.specs.Num.{num}
use Rattle.blocks.specs.Words.{words_of}
use Rattle.blocks.proofs.XorBytes.{block-xor}
use Rattle.blocks.proofs.Bridge.{bytes_words}
use Rattle.gf128.specs.Gf128.{jump}
use Rattle.gf128.proofs.TimesX.{block-zero, block-jump}
use Rattle.fips197.specs.Aes.{Key}
use Rattle.mode.specs.Mode.{Cipher, Lawful, Source, RunRecord, in_words, zero_block, start_mask, pass, unbroken, record_of}
use Rattle.mode.specs.Calls.{joined}
use Rattle.mode.proofs.Laws.{mask_there, preauthenticator_joined}
use Rattle.mode.proofs.Bytes.{AllBlocks, all_blocks-long, all_blocks_left, all_blocks_right}
use Rattle.mode.proofs.Halves.{start-block, preauthenticator_block}

pub same-record : (a b : RunRecord) → a.first ≡ b.first → a.count ≡ b.count → a.preauthenticator ≡ b.preauthenticator → a ≡ b
same-record a b p q r = λ i. record { first = p i; count = q i; preauthenticator = r i }

-- what stands beside a refusal
pub zero-words : words_of zero_block ≡ record { high = 0; low = 0 }
unfolding words_of num
zero-words = refl

pub joined-block : (x y : List ℕ) (n : ℕ) → Block x → Block y → Block (xor_bytes (jump n x) y)
joined-block x y n hx hy = block-xor (jump n x) y (block-jump n x hx) hy

module _ (c : Cipher) (laws : Lawful c) (s : Source) (key : List ℕ) (kb : Key key) (iv : List ℕ) (ib : Block iv) where
  -- the pre-authenticator of `these`, which stand after `before`
  abbrev over : List (List ℕ) → List (List ℕ) → List ℕ
  over before these = (pass c s key these (unbroken c s key iv before).mask zero_block).preauthenticator

  over_block : (before these : List (List ℕ)) → AllBlocks these → Block (over before these)
  over_block before these h =
      preauthenticator_block c laws key kb s these (unbroken c s key iv before).mask zero_block h
      (rw (mask_there c laws s key kb.size iv ib.long before) (block-jump (length before) (start_mask c key iv) (start-block c laws key kb iv ib))) block-zero

  -- a record holds it
  pub record_bytes : (before these : List (List ℕ)) → AllBlocks these → in_words.preauthenticator (record_of c s key iv before these) ≡ over before these
  unfolding record_of
  record_bytes before these h = bytes_words (over before these) (over_block before these h)

  -- THE LAW: the record of adjoining blocks is the join of their records
  pub record-append : (before x y : List (List ℕ)) → AllBlocks (x ++ y)
      → record_of c s key iv before (x ++ y) ≡ joined in_words (record_of c s key iv before x) (record_of c s key iv (before ++ x) y)
  unfolding record_of joined
  record-append before x y h =
      same-record (record_of c s key iv before (x ++ y)) (joined in_words (record_of c s key iv before x) (record_of c s key iv (before ++ x) y))
      refl (length-append x y)
      (ap words_of (preauthenticator_joined c laws s key kb.size iv ib.long before x y (all_blocks-long (x ++ y) h)
      ∙ sym (ap₂ (λ (a b : List ℕ). xor_bytes (jump (length y) a) b) (bytes_words (over before x) (over_block before x (all_blocks_left x y h)))
      (bytes_words (over (before ++ x) y) (over_block (before ++ x) y (all_blocks_right x y h))))))
