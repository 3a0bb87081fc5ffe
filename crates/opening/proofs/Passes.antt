-- The two passes over a ciphertext: its last block is a run of its own, and what is written stands in front of zeros.
use mathlib.Core.Path.{◌≡◌, refl, sym, ap, ◌∙◌}
use mathlib.Core.List.{List, [], ◌∷◌, ◌++◌, append-nil}
use Prim.Native.Nat.{ℕ, suc, ◌+◌, ◌*◌, ◌-◌, ◌/◌, ◌%◌}
use native.Mathlib.Omega.{arith}
use lib.ListN.{length, take, drop, length-append, length-drop, take-append-drop}
use lib.Seq.{drop-length, take_all, length-take-le}
use Rattle.blocks.specs.Bytes.{xor_bytes, first_blocks}
use Rattle.blocks.proofs.Chunks.{blocks-front}
use Rattle.gf128.specs.Gf128.{times_x, jump}
use Rattle.gf128.proofs.TimesX.{length-jump}
use Rattle.fips197.specs.Aes.{KeyLength}
use Rattle.mode.specs.Mode.{Pass, ciphertext, zero_block, padded, blocks_of, pass}
use Rattle.mode.specs.Aes.{aes}
use Rattle.mode.specs.Calls.{decrypted}
use Rattle.mode.proofs.Aes.{aes_lawful}
use Rattle.mode.proofs.Blocks.{blocks_of-append, long-blocks, count_middle}
use Rattle.mode.proofs.Laws.{pass_mask, preauthenticator_append, preauthenticator_from, preauthenticator_long}
use Rattle.mode.proofs.Opened.{decrypted-append, decrypted-long}
use Rattle.runs.specs.declared.run.Task.TheVariants.{Open}
use Rattle.runs.specs.Run.{ran}
use Rattle.runs.proofs.Text.{whole-blocks}
use Rattle.opening.specs.Work.{Ciphertext, front_of}

-- the blocks of a text: those before the last, and the last
module _ (text : List ℕ) (h : Ciphertext text) where
  abbrev front_length : ℕ
  front_length = length text - 16

  abbrev front_blocks : List (List ℕ)
  front_blocks = blocks_of (take front_length text)

  abbrev last_block : List ℕ
  last_block = drop front_length text

  pub front_length_lem : length (take front_length text) ≡ front_length
  front_length_lem = length-take-le front_length text (omega arith)

  front_aligned : length (take front_length text) % 16 ≡ 0
  front_aligned = omega (arith, front_length_lem, h.least, h.aligned)

  pub last_length : length last_block ≡ 16
  last_length = length-drop front_length text ∙ omega (arith, h.least)

  one_block : (b : List ℕ) → length b ≡ 16 → first_blocks 1 b ≡ b ∷ []
  unfolding first_blocks
  one_block b l = ap (λ (x : List ℕ). x ∷ []) (take_all 16 b (omega (arith, l)))

  -- as the runs take them
  pub front_taken : first_blocks (front_length / 16) (padded text) ≡ front_blocks
  unfolding blocks_of
  front_taken =
      whole-blocks (front_length / 16) text (omega arith)
      ∙ ap (first_blocks (front_length / 16)) (sym (take-append-drop front_length text))
      ∙ blocks-front (front_length / 16) (take front_length text) last_block (omega (arith, front_length_lem))
      ∙ ap (λ (n : ℕ). first_blocks (n / 16) (take front_length text)) (sym front_length_lem)

  pub last_taken : (b : List ℕ) → b ≡ last_block → first_blocks 1 (padded b) ≡ last_block ∷ []
  last_taken b e =
      let l : length b ≡ 16 = ap length e ∙ last_length in
      whole-blocks 1 b (omega (arith, l)) ∙ one_block b l ∙ ap (λ (x : List ℕ). x ∷ []) e

  last_is : blocks_of last_block ≡ last_block ∷ []
  unfolding blocks_of
  last_is = ap (λ (n : ℕ). first_blocks (n / 16) last_block) last_length ∙ one_block last_block last_length

  blocks_are : blocks_of text ≡ front_blocks ++ (last_block ∷ [])
  blocks_are =
      ap blocks_of (sym (take-append-drop front_length text))
      ∙ blocks_of-append (take front_length text) last_block front_aligned
      ∙ ap (λ (y : List (List ℕ)). front_blocks ++ y) last_is

  -- ---- what they come to

  module _ (key mask : List ℕ) (hk : KeyLength key) (hm : length mask ≡ 16) where
    abbrev before : Pass
    before = pass aes ciphertext key front_blocks mask zero_block

    abbrev whole : Pass
    whole = pass aes ciphertext key (blocks_of text) mask zero_block

    abbrev end : Pass
    end = ran Open key (last_block ∷ []) before.mask zero_block

    end_is : (pass aes ciphertext key (last_block ∷ []) before.mask zero_block) ≡ (pass aes ciphertext key (last_block ∷ []) (jump (length front_blocks) mask) zero_block)
    end_is = ap (λ (m : List ℕ). pass aes ciphertext key (last_block ∷ []) m zero_block) (pass_mask aes aes_lawful ciphertext key hk front_blocks mask zero_block)

    -- the pre-authenticator is the join of both
    pub preauthenticator_whole : whole.preauthenticator ≡ xor_bytes (times_x before.preauthenticator) end.preauthenticator
    unfolding ran jump
    preauthenticator_whole =
        ap (λ (b : List (List ℕ)). (pass aes ciphertext key b mask zero_block).preauthenticator) blocks_are
        ∙ preauthenticator_append aes aes_lawful ciphertext key hk front_blocks (last_block ∷ []) mask zero_block
        ∙ preauthenticator_from aes aes_lawful ciphertext key hk (last_block ∷ []) (jump (length front_blocks) mask) before.preauthenticator (last_length, tt) (length-jump (length front_blocks) mask hm)
        (preauthenticator_long aes aes_lawful ciphertext key hk front_blocks mask zero_block (long-blocks (take front_length text) front_aligned) hm refl)
        ∙ ap (λ (p : Pass). xor_bytes (times_x before.preauthenticator) p.preauthenticator) (sym end_is)

    pub mask_whole : whole.mask ≡ end.mask
    unfolding ran jump
    mask_whole =
        pass_mask aes aes_lawful ciphertext key hk (blocks_of text) mask zero_block
        ∙ ap (λ (n : ℕ). jump n mask) (ap length blocks_are ∙ length-append front_blocks (last_block ∷ []) ∙ (let e : length front_blocks + 1 ≡ suc (length front_blocks) = omega arith in e))
        ∙ sym (ap (λ (p : Pass). p.mask) end_is ∙ pass_mask aes aes_lawful ciphertext key hk (last_block ∷ []) (jump (length front_blocks) mask) zero_block)

    -- and so is the plaintext
    pub plaintext_whole : front_of key mask text ++ end.output ≡ decrypted aes key (blocks_of text) mask
    unfolding ran front_of
    plaintext_whole =
        ap (λ (m : List ℕ). decrypted aes key front_blocks mask ++ decrypted aes key (last_block ∷ []) m) (pass_mask aes aes_lawful ciphertext key hk front_blocks mask zero_block)
        ∙ sym (decrypted-append aes key front_blocks (last_block ∷ []) mask)
        ∙ ap (λ (b : List (List ℕ)). decrypted aes key b mask) (sym blocks_are)

    pub front_long : length (front_of key mask text) ≡ front_length
    unfolding front_of
    front_long =
        decrypted-long aes aes_lawful key hk front_blocks mask (long-blocks (take front_length text) front_aligned) hm
        ∙ ap (λ (n : ℕ). 16 * n) (count_middle (take front_length text))
        ∙ omega (arith, front_length_lem, front_aligned)

    pub front-whole : length (front_of key mask text) % 16 ≡ 0
    front-whole = omega (arith, front_long, h.least, h.aligned)

-- a run that writes no byte leaves a slice as it was
pub none_written : (output old new : List ℕ) → length output ≡ 0 → new ≡ output ++ drop 0 old → new ≡ old
none_written [] old new l e = e
none_written (x ∷ output) old new l e = absurd (omega arith)

-- what is written over all of a slice is all that it holds
pub all_written : (n : ℕ) (output old new : List ℕ) → length old ≡ n → new ≡ output ++ drop n old → new ≡ output
all_written n output old new l e = e ∙ ap (λ (x : List ℕ). output ++ x) (ap (λ (k : ℕ). drop k old) (sym l) ∙ drop-length old) ∙ append-nil output
