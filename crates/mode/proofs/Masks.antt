-- EVERY BLOCK ITS OWN MASK: the mask at block i is the start mask multiplied by x i times, and up to the limit no value comes again.
use mathlib.Core.Path.{◌≡◌, sym, ap, subst, ◌∙◌}
use mathlib.Core.List.{List, ◌++◌}
use Prim.Native.Nat.{ℕ, ◌+◌, ◌≤◌}
use native.Mathlib.Nat.{le_trans, add_comm}
use native.Mathlib.Omega.{arith}
use lib.Dec.{lit≤}
use lib.ListN.{length, take, length-append}
use lib.Seq.{length-take-le}
use Rattle.blocks.specs.Bytes.{Block, same}
use Rattle.blocks.specs.Words.{words_of}
use Rattle.blocks.proofs.Bridge.{same_bytes}
use Rattle.gf128.specs.Gf128.{jump}
use Rattle.gf128.specs.Order.{reach, Distinct}
use Rattle.gf128.proofs.TimesX.{block-zero, block-jump, jump-add}
use Rattle.gf128.proofs.Order.{distinct_jumps}
use Rattle.fips197.specs.Aes.{KeyLength, Key}
use Rattle.mode.specs.Mode.{Cipher, Lawful, Source, zero_block, start_mask}
use Rattle.mode.specs.Table.{limit, zero_mask}
use Rattle.mode.specs.Demands.{NonzeroMask, step_two, mask_at, zero_words, DistinctMasks}
use Rattle.mode.proofs.Laws.{pass_mask, mask_there}
use Rattle.mode.proofs.Same.{same_self}
use Rattle.mode.proofs.Segments.{not_both}
use Rattle.mode.proofs.Halves.{start-block}
use Rattle.mode.proofs.InWords.{zero-words}

-- ---- values that are distinct

-- other values that are equal to them
distinct_as : {A : Type 0} (z : A) (n : ℕ) (f g : ℕ → A) → ((i : ℕ) → i ≤ n → g i ≡ f i) → Distinct z n f → Distinct z n g
distinct_as z n f g e d =
    record {
      nonzero = λ i l h. d.nonzero i l (sym (e i l) ∙ h);
      different = λ i j l k h. d.different i j l k (sym (e i (omega arith)) ∙ h ∙ e j k);
    }

-- fewer of them
distinct_less : {A : Type 0} (z : A) (m n : ℕ) (f : ℕ → A) → m ≤ n → Distinct z n f → Distinct z m f
distinct_less z m n f h d = record { nonzero = λ i l. d.nonzero i (le_trans l h); different = λ i j l k. d.different i j l (le_trans k h) }

-- blocks in words
distinct_words : (n : ℕ) (f : ℕ → List ℕ) → ((i : ℕ) → i ≤ n → Block (f i)) → Distinct zero_block n f → Distinct zero_words n (λ i. words_of (f i))
distinct_words n f h d =
    record {
      nonzero = λ i l e. d.nonzero i l (same_bytes (f i) zero_block (h i l) block-zero (e ∙ sym zero-words));
      different = λ i j l k e. d.different i j l k (same_bytes (f i) (f j) (h i (omega arith)) (h j k) e);
    }

-- ---- the masks of a list

module _ (c : Cipher) (laws : Lawful c) (s : Source) (key : List ℕ) (size : KeyLength key) (iv : List ℕ) (long : length iv ≡ 16) where
  pub mask_is : (blocks : List (List ℕ)) (i : ℕ) → i ≤ length blocks → mask_at c s key iv blocks i ≡ jump i (start_mask c key iv)
  mask_is blocks i l =
      mask_there c laws s key size iv long (take i blocks) ∙ ap (λ (n : ℕ). jump n (start_mask c key iv)) (length-take-le i blocks l)

  of_run : (before these : List (List ℕ)) (i : ℕ) → i ≤ length these
      → (step_two c s key iv (length before) (take i these)).mask ≡ mask_at c s key iv (before ++ these) (length before + i)
  of_run before these i l =
      let start = start_mask c key iv in
      let n = length before in
      pass_mask c laws s key size (take i these) (jump n start) zero_block
      ∙ ap (λ (k : ℕ). jump k (jump n start)) (length-take-le i these l)
      ∙ sym (jump-add i n start) ∙ ap (λ (k : ℕ). jump k start) (add_comm i n)
      ∙ sym (mask_is (before ++ these) (n + i) (rw (length-append before these) (omega arith)))

module _ (c : Cipher) (laws : Lawful c) (s : Source) (key iv : List ℕ) (blocks : List (List ℕ)) (nz : NonzeroMask c key iv) (kb : Key key) (ib : Block iv) (fits : length blocks ≤ limit) where
  start_nonzero : ¬ (start_mask c key iv ≡ zero_block)
  unfolding zero_mask
  start_nonzero e = not_both (sym nz ∙ ap (λ (m : List ℕ). same m zero_block) e ∙ same_self zero_block)

  in-bytes : Distinct zero_block (length blocks) (mask_at c s key iv blocks)
  in-bytes =
      distinct_as zero_block (length blocks) (λ i. jump i (start_mask c key iv)) (mask_at c s key iv blocks) (mask_is c laws s key kb.size iv ib.long blocks)
      (distinct_less zero_block (length blocks) reach (λ i. jump i (start_mask c key iv)) (le_trans fits (lit≤ tt))
      (distinct_jumps (start_mask c key iv) (start-block c laws key kb iv ib) start_nonzero))

  in-words : Distinct zero_words (length blocks) (λ i. words_of (mask_at c s key iv blocks i))
  in-words =
      distinct_words (length blocks) (mask_at c s key iv blocks)
      (λ i l. subst Block (sym (mask_is c laws s key kb.size iv ib.long blocks i l)) (block-jump i (start_mask c key iv) (start-block c laws key kb iv ib))) in-bytes

pub distinct_masks : (c : Cipher) → Lawful c → DistinctMasks c
distinct_masks c laws =
    record {
      in-bytes = in-bytes c laws;
      in-words = in-words c laws;
      of_run = λ s key iv before these i size long. of_run c laws s key size iv long before these i;
      of_closing = λ s key iv blocks r size long e.
          ap (λ (n : ℕ). jump n (start_mask c key iv)) e ∙ sym (mask_is c laws s key size iv long blocks (length blocks) (omega arith));
    }
