-- The schedule of a key: the key stands in front of it, the number of rounds at its end, and its round keys are FIPS 197's.
use mathlib.Core.Path.{◌≡◌, sym, ap, ap₂, subst, ◌∙◌}
use mathlib.Core.List.{List, [], ◌∷◌, ◌++◌, append_assoc}
use Prim.Native.Nat.{ℕ, zero, suc, ◌+◌, ◌-◌, ◌*◌, ◌≤◌}
use native.Mathlib.Omega.{arith}
use lib.ListN.{length, take, length-append, length-take, length-replicate}
use lib.Seq.{take-append-le, take-take, take_all, get_or_at}
use Rattle.blocks.specs.Bytes.{zeros, first_blocks}
use Rattle.blocks.proofs.Chunks.{blocks-front}
use Rattle.fips197.specs.KeyExpansion.{next_word, words, key_expansion, round_keys}
use Rattle.fips197.specs.Aes.{KeyLength, short, long, nk_of, nr_of}
use Rattle.fips197.specs.Aes as Aes
use Rattle.fips197.proofs.KeyExpansion.{length-words}
use Rattle.fips197.proofs.Keys.{whole_words}
use Rattle.aes_steps.specs.Schedule.{rounds_in, round_keys_in, Schedule, schedule_of}
use Rattle.cipher.specs.Keys.{key_of, Expanded, Expands}

front : (nk : ℕ) (key : List ℕ) (n : ℕ) → length key ≡ nk * 4 → take (nk * 4) (words nk key n) ≡ key
unfolding words
front nk key zero e = take_all (nk * 4) key (omega arith)
front nk key (suc n) e =
    take-append-le (nk * 4) (words nk key n) (next_word nk (words nk key n) (nk + n)) (omega (arith, length-words nk key n e)) ∙ front nk key n e

module _ (key : List ℕ) (k : KeyLength key) where
  few : nk_of key ≤ 8
  few = by k
    where
      by : KeyLength key → nk_of key ≤ 8
      by (short e) = rw e (omega arith)
      by (long e) = rw e (omega arith)

  length_expansion : length (key_expansion (nk_of key) (nr_of key) key) ≡ 16 * (nr_of key + 1)
  unfolding key_expansion
  length_expansion = length-words (nk_of key) key (4 * (nr_of key + 1) - nk_of key) (whole_words key k) ∙ omega arith

  -- all but the last byte
  abbrev before_last : List ℕ
  before_last = key_expansion (nk_of key) (nr_of key) key ++ zeros (240 - 16 * (nr_of key + 1))

  length_before : length before_last ≡ 240
  length_before =
      length-append (key_expansion (nk_of key) (nr_of key) key) (zeros (240 - 16 * (nr_of key + 1)))
      ∙ ap₂ (λ (a b : ℕ). a + b) length_expansion (length-replicate {A = ℕ} (240 - 16 * (nr_of key + 1)) 0) ∙ omega (arith, few)

  as_ends : schedule_of key ≡ before_last ++ (nr_of key ∷ [])
  unfolding schedule_of
  as_ends = sym (append_assoc (key_expansion (nk_of key) (nr_of key) key) (zeros (240 - 16 * (nr_of key + 1))) (nr_of key ∷ []))

  rounds_of : rounds_in (schedule_of key) ≡ nr_of key
  rounds_of = ap rounds_in as_ends ∙ get_or_at before_last (nr_of key) [] 0 240 length_before

  key_of_lem : key_of (schedule_of key) ≡ key
  unfolding schedule_of key_expansion
  key_of_lem =
      let n : (nr_of key - 6) * 4 ≡ nk_of key * 4 = omega arith in
      ap (λ (m : ℕ). take m (schedule_of key)) (ap (λ (m : ℕ). (m - 6) * 4) rounds_of ∙ n)
      ∙ take-append-le (nk_of key * 4) (key_expansion (nk_of key) (nr_of key) key) (zeros (240 - 16 * (nr_of key + 1)) ++ (nr_of key ∷ [])) (omega (arith, length_expansion))
      ∙ front (nk_of key) key (4 * (nr_of key + 1) - nk_of key) (whole_words key k)

  length-schedule : length (schedule_of key) ≡ 241
  length-schedule = ap length as_ends ∙ length-append before_last (nr_of key ∷ []) ∙ ap (λ (n : ℕ). n + 1) length_before

  round-keys : round_keys_in (schedule_of key) ≡ Aes.keys key
  unfolding schedule_of Aes.keys round_keys
  round-keys =
      ap (λ (n : ℕ). first_blocks (n + 1) (schedule_of key)) rounds_of
      ∙ blocks-front (nr_of key + 1) (key_expansion (nk_of key) (nr_of key) key) (zeros (240 - 16 * (nr_of key + 1)) ++ (nr_of key ∷ [])) (omega (arith, length_expansion))

-- what FIPS 197 makes of a key is a schedule of it
pub expands : (key keys : List ℕ) → KeyLength key → keys ≡ schedule_of key → Expands key keys
expands key keys k h =
    let of : key_of keys ≡ key = ap key_of h ∙ key_of_lem key k in
    record { schedule = record { size = subst KeyLength (sym of) k; is = h ∙ ap schedule_of (sym of) }; of = of }

module _ (keys : List ℕ) (e : Expanded keys) where
  -- it is one that an engine takes
  pub is_schedule : Schedule keys
  is_schedule =
      let n : rounds_in keys ≡ nr_of (key_of keys) = ap rounds_in e.is ∙ rounds_of (key_of keys) e.size in
      record {
        size = ap length e.is ∙ length-schedule (key_of keys) e.size;
        some = omega (arith, n);
        fits = omega (arith, n, few (key_of keys) e.size);
      }

  pub rounds_are : rounds_in keys ≡ nr_of (key_of keys)
  rounds_are = ap rounds_in e.is ∙ rounds_of (key_of keys) e.size

  pub round_keys_are : round_keys_in keys ≡ Aes.keys (key_of keys)
  round_keys_are = ap round_keys_in e.is ∙ round-keys (key_of keys) e.size

-- the first 16 bytes of a schedule are those of its key
pub first_16 : (keys : List ℕ) → Expanded keys → take 16 keys ≡ take 16 (key_of keys)
first_16 keys e = by e.size
  where
    enough : 16 ≤ length (key_of keys) → take 16 keys ≡ take 16 (key_of keys)
    enough h = sym (take-take 16 ((rounds_in keys - 6) * 4) keys (omega (arith, h, length-take ((rounds_in keys - 6) * 4) keys)))

    by : KeyLength (key_of keys) → take 16 keys ≡ take 16 (key_of keys)
    by (short l) = enough (omega arith)
    by (long l) = enough (omega arith)
