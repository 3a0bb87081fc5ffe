-- The cipher by a schedule, of any number of rounds that it has room for: one half after the other, and the lengths.
use mathlib.Core.Path.{◌≡◌, ap, ap₂, ◌∙◌}
use mathlib.Core.List.{List}
use Prim.Native.Nat.{ℕ, suc, ◌+◌, ◌/◌, ◌<◌}
use native.Mathlib.Numerals.{add-one}
use native.Mathlib.Omega.{arith}
use lib.ListN.{length}
use lib.Seq.{slice}
use Rattle.fips197.specs.State.{sub_bytes, inv_sub_bytes, shift_rows, inv_shift_rows, add_round_key}
use Rattle.fips197.specs.Cipher.{round_key, last_round, inv_last_round, rounds, inv_rounds, first_half, second_half, inv_first_half, inv_second_half}
use Rattle.fips197.proofs.Rounds.{halves_cipher, halves_inv_cipher}
use Rattle.fips197.proofs.Lengths.{AllLong, enough, long-first_blocks, length-first_half, length-second_half, length-inv_first_half, length-inv_second_half}
use Rattle.aes_steps.specs.Schedule.{rounds_in, round_keys_in, Schedule, first_half_by, second_half_by, inv_first_half_by, inv_second_half_by, encrypt_by, decrypt_by}

module _ (w : List ℕ) (h : Schedule w) where
  half_below : rounds_in w / 2 < rounds_in w
  half_below = omega (arith, h.some)

  pub encrypt_by_halves : (s : List ℕ) → second_half_by w (first_half_by w s) ≡ encrypt_by w s
  unfolding first_half_by second_half_by encrypt_by
  encrypt_by_halves = halves_cipher (rounds_in w / 2) (rounds_in w) (round_keys_in w) half_below (enough (rounds_in w) w)

  pub decrypt_by_halves : (s : List ℕ) → inv_first_half_by w (inv_second_half_by w s) ≡ decrypt_by w s
  unfolding inv_first_half_by inv_second_half_by decrypt_by
  decrypt_by_halves = halves_inv_cipher (rounds_in w / 2) (rounds_in w) (round_keys_in w) half_below (enough (rounds_in w) w)

  all_long : AllLong (round_keys_in w)
  all_long = long-first_blocks (rounds_in w + 1) w (omega (arith, h.size, h.fits))

  pub length-first_half_by : (s : List ℕ) → length s ≡ 16 → length (first_half_by w s) ≡ 16
  unfolding first_half_by
  length-first_half_by = length-first_half (rounds_in w / 2) (rounds_in w) (round_keys_in w) all_long (enough (rounds_in w) w)

  pub length-second_half_by : (s : List ℕ) → length (second_half_by w s) ≡ 16
  unfolding second_half_by
  length-second_half_by = length-second_half (rounds_in w / 2) (rounds_in w) (round_keys_in w) all_long (enough (rounds_in w) w)

  pub length-inv_first_half_by : (s : List ℕ) → length s ≡ 16 → length (inv_first_half_by w s) ≡ 16
  unfolding inv_first_half_by
  length-inv_first_half_by = length-inv_first_half (rounds_in w / 2) (rounds_in w) (round_keys_in w) all_long (enough (rounds_in w) w)

pub length-inv_second_half_by : (w s : List ℕ) → length (inv_second_half_by w s) ≡ 16
unfolding inv_second_half_by
length-inv_second_half_by w = length-inv_second_half (rounds_in w / 2) (rounds_in w) (round_keys_in w)

-- ---- a half, as the code takes its steps: h is the number of rounds in the first, and last that of all

module _ (w s t r : List ℕ) (h : ℕ) (eh : h ≡ rounds_in w / 2) where
  to_half : h + 1 ≡ suc (rounds_in w / 2)
  to_half = add-one h ∙ ap suc eh

  pub first_half_by_lem : t ≡ add_round_key s (round_key (round_keys_in w) 0) → r ≡ rounds (slice 1 (h + 1) (round_keys_in w)) t → r ≡ first_half_by w s
  unfolding first_half_by first_half
  first_half_by_lem et er = er ∙ ap₂ (λ (n : ℕ) (x : List ℕ). rounds (slice 1 n (round_keys_in w)) x) to_half et

  pub inv_first_half_by_lem : t ≡ inv_rounds (slice 1 (h + 1) (round_keys_in w)) s → r ≡ add_round_key t (round_key (round_keys_in w) 0) → r ≡ inv_first_half_by w s
  unfolding inv_first_half_by inv_first_half
  inv_first_half_by_lem et er =
      er ∙ ap (λ (x : List ℕ). add_round_key x (round_key (round_keys_in w) 0)) (et ∙ ap (λ (n : ℕ). inv_rounds (slice 1 n (round_keys_in w)) s) to_half)

  module _ (u : List ℕ) (last : ℕ) (el : last ≡ rounds_in w) where
    pub second_half_by_lem : t ≡ rounds (slice (h + 1) last (round_keys_in w)) s → u ≡ shift_rows (sub_bytes t) → r ≡ add_round_key u (round_key (round_keys_in w) last)
        → r ≡ second_half_by w s
    unfolding second_half_by second_half last_round
    second_half_by_lem et eu er =
        er
        ∙ ap₂ (λ (n : ℕ) (x : List ℕ). add_round_key x (round_key (round_keys_in w) n)) el
        (eu ∙ ap (λ (x : List ℕ). shift_rows (sub_bytes x)) (et ∙ ap₂ (λ (m n : ℕ). rounds (slice m n (round_keys_in w)) s) to_half el))

    pub inv_second_half_by_lem : t ≡ add_round_key s (round_key (round_keys_in w) last) → u ≡ inv_sub_bytes (inv_shift_rows t)
        → r ≡ inv_rounds (slice (h + 1) last (round_keys_in w)) u → r ≡ inv_second_half_by w s
    unfolding inv_second_half_by inv_second_half inv_last_round
    inv_second_half_by_lem et eu er =
        er ∙ ap₂ (λ (m n : ℕ). inv_rounds (slice m n (round_keys_in w)) u) to_half el
        ∙ ap (inv_rounds (slice (suc (rounds_in w / 2)) (rounds_in w) (round_keys_in w)))
        (eu ∙ ap (λ (x : List ℕ). inv_sub_bytes (inv_shift_rows x)) (et ∙ ap (λ (n : ℕ). add_round_key s (round_key (round_keys_in w) n)) el))
