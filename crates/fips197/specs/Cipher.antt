-- FIPS 197, 5.1 and 5.3: CIPHER() and INVCIPHER(), over a list of round keys; and document 01's two halves of it.
use Rattle.std.specs.Prelude.{List, [], ◌∷◌, ℕ, zero, suc, ◌-◌, get_or}
use Rattle.std.proofs.Math.Seq.{slice}
use Rattle.fips197.specs.State.{sub_bytes, inv_sub_bytes, shift_rows, inv_shift_rows, mix_columns, inv_mix_columns, add_round_key}

-- round key n
abbrev pub round_key : List (List ℕ) → ℕ → List ℕ
round_key ks n = get_or ks n []

-- ---- 5.1

-- a round, and the last one, which mixes no columns
unfoldable pub round : List ℕ → List ℕ → List ℕ
round s k = add_round_key (mix_columns (shift_rows (sub_bytes s))) k

unfoldable pub last_round : List ℕ → List ℕ → List ℕ
last_round s k = add_round_key (shift_rows (sub_bytes s)) k

-- the state after round n
unfoldable pub after_round : List (List ℕ) → List ℕ → ℕ → List ℕ
after_round ks s zero = add_round_key s (round_key ks 0)
after_round ks s (suc n) = round (after_round ks s n) (round_key ks (suc n))

unfoldable pub cipher : ℕ → List (List ℕ) → List ℕ → List ℕ
cipher nr ks s = last_round (after_round ks s (nr - 1)) (round_key ks nr)

-- ---- 5.3

-- the rounds from n down to 1, then the end, which mixes no columns
unfoldable pub inv_from : List (List ℕ) → ℕ → List ℕ → List ℕ
inv_from ks zero s = add_round_key (inv_sub_bytes (inv_shift_rows s)) (round_key ks 0)
inv_from ks (suc n) s = inv_from ks n (inv_mix_columns (add_round_key (inv_sub_bytes (inv_shift_rows s)) (round_key ks (suc n))))

unfoldable pub inv_cipher : ℕ → List (List ℕ) → List ℕ → List ℕ
inv_cipher nr ks s = inv_from ks (nr - 1) (add_round_key s (round_key ks nr))

-- ---- document 01: the halves, the first of h rounds, of a cipher of nr

-- a round with each key in turn
unfoldable pub rounds : List (List ℕ) → List ℕ → List ℕ
rounds [] s = s
rounds (k ∷ ks) s = rounds ks (round s k)

-- the key whitening and rounds 1 to h
unfoldable pub first_half : ℕ → List (List ℕ) → List ℕ → List ℕ
first_half h ks s = rounds (slice 1 (suc h) ks) (add_round_key s (round_key ks 0))

-- rounds h + 1 to nr
unfoldable pub second_half : ℕ → ℕ → List (List ℕ) → List ℕ → List ℕ
second_half h nr ks s = last_round (rounds (slice (suc h) nr ks) s) (round_key ks nr)

-- ---- the halves run backwards

unfoldable pub inv_round : List ℕ → List ℕ → List ℕ
inv_round s k = inv_sub_bytes (inv_shift_rows (inv_mix_columns (add_round_key s k)))

unfoldable pub inv_last_round : List ℕ → List ℕ → List ℕ
inv_last_round s k = inv_sub_bytes (inv_shift_rows (add_round_key s k))

-- the rounds with these keys undone, the last one first
unfoldable pub inv_rounds : List (List ℕ) → List ℕ → List ℕ
inv_rounds [] s = s
inv_rounds (k ∷ ks) s = inv_round (inv_rounds ks s) k

unfoldable pub inv_first_half : ℕ → List (List ℕ) → List ℕ → List ℕ
inv_first_half h ks s = add_round_key (inv_rounds (slice 1 (suc h) ks) s) (round_key ks 0)

unfoldable pub inv_second_half : ℕ → ℕ → List (List ℕ) → List ℕ → List ℕ
inv_second_half h nr ks s = inv_rounds (slice (suc h) nr ks) (inv_last_round s (round_key ks nr))
