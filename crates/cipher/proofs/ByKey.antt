-- From what an engine gives, by a schedule, to AES under the key: the same for every engine, and for every number of rounds.
use mathlib.Core.Path.{◌≡◌, ap, ap₂, subst, ◌∙◌}
use mathlib.Core.List.{List}
use Prim.Native.Nat.{ℕ, ◌/◌}
use Rattle.groups.specs.Group.{block_at, Holds}
use Rattle.groups.proofs.Loop.{holds_as}
use Rattle.fips197.specs.Cipher as C
use Rattle.fips197.specs.Aes as Aes
use Rattle.fips197.specs.Aes.{nr_of, first_half, second_half, inv_first_half, inv_second_half, encrypt, decrypt}
use Rattle.fips197.proofs.Aes.{encrypt_halves, decrypt_halves}
use Rattle.aes_steps.specs.Schedule.{rounds_in, round_keys_in, first_half_by, second_half_by, inv_first_half_by, inv_second_half_by, encrypt_by, decrypt_by}
use Rattle.cipher.specs.Keys.{key_of, Expanded}
use Rattle.cipher.specs.Group.{Enciphered, Deciphered, Middletexts}
use Rattle.cipher.proofs.Keys.{rounds_are, round_keys_are}

module _ (keys : List ℕ) (e : Expanded keys) where
  -- whatever goes by the number of rounds and the round keys
  by-rounds : (F : ℕ → List (List ℕ) → List ℕ) → F (rounds_in keys) (round_keys_in keys) ≡ F (nr_of (key_of keys)) (Aes.keys (key_of keys))
  by-rounds F = ap₂ F (rounds_are keys e) (round_keys_are keys e)

  -- ---- one block

  pub encrypt_is : (s : List ℕ) → encrypt_by keys s ≡ encrypt (key_of keys) s
  unfolding encrypt_by encrypt
  encrypt_is s = by-rounds (λ nr ks. C.cipher nr ks s)

  pub decrypt_is : (s : List ℕ) → decrypt_by keys s ≡ decrypt (key_of keys) s
  unfolding decrypt_by decrypt
  decrypt_is s = by-rounds (λ nr ks. C.inv_cipher nr ks s)

  first_is : (s : List ℕ) → first_half_by keys s ≡ first_half (key_of keys) s
  unfolding first_half_by first_half
  first_is s = by-rounds (λ nr ks. C.first_half (nr / 2) ks s)

  second_is : (s : List ℕ) → second_half_by keys s ≡ second_half (key_of keys) s
  unfolding second_half_by second_half
  second_is s = by-rounds (λ nr ks. C.second_half (nr / 2) nr ks s)

  inv_first_is : (s : List ℕ) → inv_first_half_by keys s ≡ inv_first_half (key_of keys) s
  unfolding inv_first_half_by inv_first_half
  inv_first_is s = by-rounds (λ nr ks. C.inv_first_half (nr / 2) ks s)

  inv_second_is : (s : List ℕ) → inv_second_half_by keys s ≡ inv_second_half (key_of keys) s
  unfolding inv_second_half_by inv_second_half
  inv_second_is s = by-rounds (λ nr ks. C.inv_second_half (nr / 2) nr ks s)

  -- ---- a group, by a schedule w that is this one

  module _ (w : List ℕ) (is : w ≡ keys) (n : ℕ) (old new : List ℕ) where
    by_this : (F : List ℕ → List ℕ → List ℕ) (g : List ℕ) → Holds n (λ i. F w (block_at old i)) g → Holds n (λ i. F keys (block_at old i)) g
    by_this F g h = subst (λ (v : List ℕ). Holds n (λ i. F v (block_at old i)) g) is h

    pub enciphered : (middle : List ℕ) → Holds n (λ i. first_half_by w (block_at old i)) middle
        → Holds n (λ i. second_half_by w (first_half_by w (block_at old i))) new → Enciphered n (key_of keys) old new middle
    enciphered middle m b =
        record {
          middletexts = holds_as n _ _ middle (by_this first_half_by middle m) (λ i l. first_is (block_at old i));
          blocks =
              holds_as n _ _ new (by_this (λ v s. second_half_by v (first_half_by v s)) new b)
              (λ i l. second_is (first_half_by keys (block_at old i)) ∙ ap (second_half (key_of keys)) (first_is (block_at old i)) ∙ encrypt_halves (key_of keys) (block_at old i));
        }

    pub middletexts_are : Holds n (λ i. inv_second_half_by w (block_at old i)) new → Middletexts n (key_of keys) old new
    middletexts_are m = holds_as n _ _ new (by_this inv_second_half_by new m) (λ i l. inv_second_is (block_at old i))

    pub deciphered : (middle : List ℕ) → Holds n (λ i. inv_second_half_by w (block_at old i)) middle
        → Holds n (λ i. inv_first_half_by w (inv_second_half_by w (block_at old i))) new → Deciphered n (key_of keys) old new middle
    deciphered middle m b =
        record {
          middletexts = holds_as n _ _ middle (by_this inv_second_half_by middle m) (λ i l. inv_second_is (block_at old i));
          blocks =
              holds_as n _ _ new (by_this (λ v s. inv_first_half_by v (inv_second_half_by v s)) new b)
              (λ i l. inv_first_is (inv_second_half_by keys (block_at old i)) ∙ ap (inv_first_half (key_of keys)) (inv_second_is (block_at old i)) ∙ decrypt_halves (key_of keys) (block_at old i));
        }
