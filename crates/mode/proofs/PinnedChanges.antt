-- What ticket P11's statements may not lose, and what they may not gain: masks differ at the limit and behind the last block, in runs and in closing
-- too, but not from a start mask of zero on; messages of equal length are among those that are compared, and there are such messages; a change does not show in the next
-- block; and their tags may coincide.
use mathlib.Core.Path.{◌≡◌, refl, sym, ap, subst, ◌∙◌}
use mathlib.Core.List.{List, [], ◌∷◌, ◌++◌}
use Prim.Native.Nat.{ℕ, zero, suc, ◌+◌, ◌/◌, ◌≤◌, ◌<◌}
use native.Mathlib.Nat.{le_refl, le_of_eq}
use native.Mathlib.Omega.{arith}
use lib.ListN.{length, get_or, take, length-append}
use Rattle.blocks.specs.Bytes.{Bytes, Block}
use Rattle.blocks.specs.Words.{words_of}
use Rattle.blocks.proofs.Test.{bytes_by}
use Rattle.gf128.specs.Gf128.{jump}
use Rattle.gf128.specs.Order.{Distinct}
use Rattle.gf128.proofs.TimesX.{jump-zero}
use Rattle.fips197.specs.Aes.{KeyLength, Key}
use Rattle.mode.specs.Mode.{Cipher, Lawful, Finish, Source, by_cipher, plaintext, ciphertext, RunRecord, in_words, zero_block, blocks_of, padded, start_mask, cipher_part, tag_part, sealed_record, unbroken}
use Rattle.mode.specs.Table.{given, too_long_within, limit}
use Rattle.mode.specs.Calls.{last, seal, seal_run, check_run}
use Rattle.mode.specs.Demands.{NonzeroMask, step_two, closing_mask, mask_at, DistinctMasks, DifferOnlyAt, ChangesShow}
use Rattle.mode.proofs.Blocks.{count_last}
use Rattle.mode.proofs.Finishes.{by-cipher}
use Rattle.mode.proofs.Masks.{mask_is}
use Rattle.mode.proofs.Changes.{changes_show}
use Rattle.mode.proofs.Toy.{toy, toy_lawful, computed, a_key, a_key_is, an_iv}

-- ---- masks

module _ (c : Cipher) (d : DistinctMasks c) (key iv : List ℕ) (nz : NonzeroMask c key iv) (kb : Key key) (ib : Block iv) where
  -- the longest list has one mask more than blocks, in sealing and in checking
  pub at_the_limit : (blocks : List (List ℕ)) → length blocks ≡ limit
      → Distinct zero_block limit (mask_at c plaintext key iv blocks) × Distinct zero_block limit (mask_at c ciphertext key iv blocks)
  at_the_limit blocks e = (by plaintext, by ciphertext)
    where
      by : (s : Source) → Distinct zero_block limit (mask_at c s key iv blocks)
      by s = subst (λ (n : ℕ). Distinct zero_block n (mask_at c s key iv blocks)) e (d.in-bytes s key iv blocks nz kb ib (le_of_eq e))

  pub words_at_the_limit : (s : Source) (blocks : List (List ℕ)) → length blocks ≡ limit → Distinct (record { high = 0; low = 0 }) limit (λ i. words_of (mask_at c s key iv blocks i))
  words_at_the_limit s blocks e =
      subst (λ (n : ℕ). Distinct (record { high = 0; low = 0 }) n (λ i. words_of (mask_at c s key iv blocks i))) e (d.in-words s key iv blocks nz kb ib (le_of_eq e))

  -- the mask that closing adds is none of the blocks'
  pub closing_differs : (s : Source) (blocks : List (List ℕ)) (r : RunRecord) (i : ℕ) → length blocks ≤ limit → r.count ≡ length blocks → i < length blocks
      → ¬ (mask_at c s key iv blocks i ≡ closing_mask c key iv r)
  closing_differs s blocks r i l e h f =
      (d.in-bytes s key iv blocks nz kb ib l).different i (length blocks) h (le_refl (length blocks)) (f ∙ d.of_closing s key iv blocks r kb.size ib.long e)

  -- nor is a mask of a run one of the blocks before it
  pub run_differs : (s : Source) (before these : List (List ℕ)) (i j : ℕ) → length before + length these ≤ limit → i ≤ length these → j < length before + i
      → ¬ (mask_at c s key iv (before ++ these) j ≡ (step_two c s key iv (length before) (take i these)).mask)
  run_differs s before these i j l h k f =
      let n = length-append before these in
      (d.in-bytes s key iv (before ++ these) nz kb ib (omega arith)).different j (length before + i) k (omega arith)
      (f ∙ d.of_run s key iv before these i kb.size ib.long h)

-- from a start mask of zero on every mask is zero
pub zero-start : (c : Cipher) → Lawful c → (s : Source) (key iv : List ℕ) (blocks : List (List ℕ)) (i : ℕ) → KeyLength key → length iv ≡ 16 → start_mask c key iv ≡ zero_block
    → i ≤ length blocks → mask_at c s key iv blocks i ≡ zero_block
zero-start c laws s key iv blocks i size long z l = mask_is c laws s key size iv long blocks i l ∙ ap (jump i) z ∙ jump-zero i

-- ---- changes

-- messages of equal length, in the ticket's words
pub equal_lengths : (k : ℕ) (m n : List ℕ) → length m ≡ length n → ¬ (get_or (blocks_of (padded m)) k [] ≡ get_or (blocks_of (padded n)) k [])
    → ((i : ℕ) → ¬ (i ≡ k) → get_or (blocks_of (padded m)) i [] ≡ get_or (blocks_of (padded n)) i []) → DifferOnlyAt k (blocks_of (padded m)) (blocks_of (padded n))
equal_lengths k m n e there elsewhere = record { count = count_last m ∙ ap (λ (l : ℕ). l / 16 + 1) e ∙ sym (count_last n); there = there; elsewhere = elsewhere }

pub ciphertexts_and_preauthenticators : (t : Finish) (c : Cipher) → ChangesShow t c → (key iv m n r q : List ℕ) (room k : ℕ) → Key key → Block iv → Bytes m → Bytes n
    → (seal t c key iv m room).answer ≡ given r → (seal t c key iv n room).answer ≡ given q → DifferOnlyAt k (blocks_of (padded m)) (blocks_of (padded n))
    → ¬ (get_or (blocks_of (cipher_part t r)) k [] ≡ get_or (blocks_of (cipher_part t q)) k [])
    × ((i : ℕ) → ¬ (i ≡ k) → get_or (blocks_of (cipher_part t r)) i [] ≡ get_or (blocks_of (cipher_part t q)) i [])
    × ¬ ((unbroken c plaintext key iv (blocks_of (padded m))).preauthenticator ≡ (unbroken c plaintext key iv (blocks_of (padded n))).preauthenticator)
ciphertexts_and_preauthenticators t c s key iv m n r q room k kb ib hm hn em en d =
    let f = (s.of_seal key iv m n r q room room k kb ib hm hn em en d).1 in
    (f.there, f.elsewhere, s.preauthenticators key iv m n k kb ib hm hn d)

-- a whole message as one run: the words of the two records differ
pub one_run : (t : Finish) (c : Cipher) → ChangesShow t c → (key iv m n : List ℕ) (r q : RunRecord) (room k : ℕ) → Key key → Block iv → Bytes m → Bytes n
    → (seal_run in_words c key iv 0 last m room).answer ≡ given r → (seal_run in_words c key iv 0 last n room).answer ≡ given q
    → DifferOnlyAt k (blocks_of (padded m)) (blocks_of (padded n)) → ¬ (r.preauthenticator ≡ q.preauthenticator)
unfolding computed
one_run t c s key iv m n r q room k kb ib hm hn em en d = (s.of_seal_run key iv 0 last m n r q room room k kb ib hm hn em en d).1

-- a changed ciphertext, checked
pub checked_run : (t : Finish) (c : Cipher) → ChangesShow t c → (key iv a b : List ℕ) (first k : ℕ) (r : RunRecord) → Key key → Block iv → Bytes a → Bytes b
    → check_run in_words c key iv first a ≡ given r → DifferOnlyAt k (blocks_of a) (blocks_of b) → ¬ (check_run in_words c key iv first b ≡ given r)
checked_run t c s key iv a b first k r kb ib ha hb ea d eb = s.of_check_run key iv first a b r r k kb ib ha hb ea eb d refl

-- ---- two such messages, of one byte each, over the toy cipher

abbrev one_byte : ℕ → List ℕ
one_byte byte = byte ∷ []

abbrev sealed_byte : ℕ → List ℕ
sealed_byte byte = sealed_record by_cipher toy a_key an_iv (one_byte byte)

differ : DifferOnlyAt 0 (blocks_of (padded (one_byte 1))) (blocks_of (padded (one_byte 2)))
unfolding computed
differ = record { count = refl; there = λ e. let z : ◌≡◌ {A = ℕ} 1 2 = ap (λ (b : List ℕ). get_or b 0 0) e in omega arith; elsewhere = elsewhere }
  where
    elsewhere : (i : ℕ) → ¬ (i ≡ 0) → get_or (blocks_of (padded (one_byte 1))) i [] ≡ get_or (blocks_of (padded (one_byte 2))) i []
    elsewhere zero ne = absurd (ne refl)
    elsewhere (suc i) ne = refl

-- both are sealed, and what is said of them holds
pub sealed_both : ((seal by_cipher toy a_key an_iv (one_byte 1) 48).answer ≡ given (sealed_byte 1)) × ((seal by_cipher toy a_key an_iv (one_byte 2) 48).answer ≡ given (sealed_byte 2))
unfolding computed seal too_long_within
sealed_both = (refl, refl)

pub differ_there : DifferOnlyAt 0 (blocks_of (cipher_part by_cipher (sealed_byte 1))) (blocks_of (cipher_part by_cipher (sealed_byte 2)))
differ_there =
    ((changes_show by_cipher toy toy_lawful (by-cipher toy toy_lawful)).of_seal a_key an_iv (one_byte 1) (one_byte 2) (sealed_byte 1) (sealed_byte 2) 48 48 0 a_key_is
    (record { long = refl; bytes = bytes_by an_iv tt }) (bytes_by (one_byte 1) tt) (bytes_by (one_byte 2) tt) sealed_both.0 sealed_both.1 differ).1

-- and their tags are the same: under this cipher the pre-authenticator drops out of a tag
pub tags_coincide : tag_part by_cipher (sealed_byte 1) ≡ tag_part by_cipher (sealed_byte 2)
unfolding computed
tags_coincide = refl
