-- Why a list is refused: document 01's table, with ticket P8's row 1, ticket P4's row 3, ticket P3's row 10, ticket P6's row 5 of opening, and ticket
-- P7's limit. A row is a number and whether its condition holds; the first row that holds, in the table's order, is the answer.
use Rattle.std.specs.Prelude.{◌≡◌, List, [], ◌∷◌, ◌++◌, Bool, true, false, cond, not, ◌||◌, ℕ, ◌+◌, ◌*◌, ◌-◌, ◌%◌, length, ℤ, nat_abs, eqb, ltb}
use Rattle.blocks.specs.Bytes.{same}
use Rattle.fips180.specs.Sha1.{longest_text}
use Rattle.mode.specs.Mode.{Cipher, Finish, overhead, Form, zero_block, start_mask}
-- 1 (ticket P8): a key that is neither 16 bytes nor 32
unfoldable pub use Rattle.fips197.specs.Aes.{not_key}

-- a refusal, by document 01's number, or what the call gives
pub data Answer (A : Type 0) : Type 0 where
  refused : ℕ → Answer A
  given : A → Answer A

-- the first row that holds
unfoldable pub decide : {A : Type 0} → List (ℕ × Bool) → A → Answer A
decide [] a = given a
decide (row ∷ rows) a = cond row.1 (refused row.0) (decide rows a)

-- the number of the first row that holds, or 0
unfoldable pub first_row : List (ℕ × Bool) → ℕ
first_row [] = 0
first_row (row ∷ rows) = cond row.1 row.0 (first_row rows)

-- the numbers in the order in which their rows stand
abbrev pub table_order : List ℕ
table_order = 1 ∷ 2 ∷ 3 ∷ 4 ∷ 8 ∷ 9 ∷ 10 ∷ 5 ∷ 6 ∷ 7 ∷ []

-- and in opening (ticket P6), where 5 comes after 7
abbrev pub open_order : List ℕ
open_order = 1 ∷ 3 ∷ 10 ∷ 6 ∷ 7 ∷ 5 ∷ []

-- whether some rows stand in such an order
unfoldable pub in_order : List ℕ → List (ℕ × Bool) → Bool
in_order numbers [] = true
in_order [] (row ∷ rows) = false
in_order (n ∷ numbers) (row ∷ rows) = cond (eqb n row.0) (in_order numbers rows) (in_order numbers (row ∷ rows))

-- none of these rows holds
abbrev pub NoneHolds : List (ℕ × Bool) → Type 0
NoneHolds [] = Unit {0}
NoneHolds (row ∷ rows) = (row.1 ≡ false) × NoneHolds rows

-- a row with the number n holds, and none above it
pub record Decides (rows : List (ℕ × Bool)) (n : ℕ) : Type 0 where
  pub above : List (ℕ × Bool)
  pub below : List (ℕ × Bool)
  pub rows_are : rows ≡ above ++ (n, true) ∷ below
  pub none_above : NoneHolds above

-- THE LIMIT: the number of blocks that a list may have (ticket P7)
abbrev pub limit : ℕ
limit = 1048576

-- What speaks of the limit takes it as n: the names that end in `_within`. The calls have `limit` for n, by the names without it. Another n stands
-- only where two limits are compared (`LowerLimit` on the demands page).
module _ (n : ℕ) where
  -- the longest message, whose padding fills the last block
  abbrev pub longest_message_within : ℕ
  longest_message_within = 16 * n - 1

  abbrev pub longest_sealed_within : Finish → ℕ
  longest_sealed_within t = 16 * n + overhead t

-- 16,777,215
abbrev pub longest_message : ℕ
longest_message = longest_message_within limit

-- 16,777,248, or 16,777,252 with the hash finish
abbrev pub longest_sealed : Finish → ℕ
longest_sealed = longest_sealed_within limit

-- ---- the conditions

-- 2, and 3 of a mask: not 16 bytes
unfoldable pub not16 : List ℕ → Bool
not16 bytes = not (eqb (length bytes) 16)

-- 3: no multiple of 16
unfoldable pub unaligned : List ℕ → Bool
unaligned bytes = not (eqb (length bytes % 16) 0)

-- 3: a whole message over the longest
unfoldable pub too_long_within : ℕ → List ℕ → Bool
too_long_within n message = ltb (longest_message_within n) (length message)

abbrev pub too_long : List ℕ → Bool
too_long = too_long_within limit

-- 3: a tag that is not as long as the finish makes them
unfoldable pub not_tag : Finish → List ℕ → Bool
not_tag t tag = not (eqb (length tag) t.tag_length)

-- 3: a sealed record below the shortest, which has one block, above the longest, or of which IV and tag do not leave a multiple of 16. With 16
-- bytes of tag: below 48, above 16,777,248 or no multiple of 16; with 20: below 52, above 16,777,252 or not 36 over a multiple of 16.
unfoldable pub not_sealed_within : ℕ → Finish → List ℕ → Bool
not_sealed_within n t sealed =
    ltb (length sealed) (16 + overhead t)
    || (ltb (longest_sealed_within n t) (length sealed) || not (eqb ((length sealed - overhead t) % 16) 0))

abbrev pub not_sealed : Finish → List ℕ → Bool
not_sealed = not_sealed_within limit

-- 3 (ticket P4): a text to SHA-1 over 64,032 bytes
unfoldable pub unhashable : List ℕ → Bool
unhashable text = ltb longest_text (length text)

-- 4: first block plus count above the limit
unfoldable pub beyond_within : ℕ → ℕ → ℕ → Bool
beyond_within n first count = ltb n (first + count)

abbrev pub beyond : ℕ → ℕ → Bool
beyond = beyond_within limit

-- 4: of any record handed in
unfoldable pub any_beyond_within : ℕ → (f : Form) → List f.Record → Bool
any_beyond_within n f [] = false
any_beyond_within n f (r ∷ rs) = beyond_within n (f.first r) (f.count r) || any_beyond_within n f rs

abbrev pub any_beyond : (f : Form) → List f.Record → Bool
any_beyond = any_beyond_within limit

-- 4: a jump of more blocks than the limit, either way
unfoldable pub too_far_within : ℕ → ℤ → Bool
too_far_within n distance = ltb n (nat_abs distance)

abbrev pub too_far : ℤ → Bool
too_far = too_far_within limit

-- 8: two records in turn where the left's first plus count is not the right's first
unfoldable pub apart : (f : Form) → List f.Record → Bool
apart f [] = false
apart f (r ∷ []) = false
apart f (l ∷ r ∷ rs) = not (eqb (f.first l + f.count l) (f.first r)) || apart f (r ∷ rs)

-- 9: an empty list
unfoldable pub none : {R : Type 0} → List R → Bool
none [] = true
none (r ∷ rs) = false

-- 9: a record that does not start at 0 or has no block
unfoldable pub not_whole : (f : Form) → f.Record → Bool
not_whole f r = not (eqb (f.first r) 0) || eqb (f.count r) 0

-- 10 (ticket P3): the start mask is still zero after its replacement, so that nothing would be added to the blocks
unfoldable pub zero_mask : Cipher → List ℕ → List ℕ → Bool
zero_mask c key iv = same (start_mask c key iv) zero_block

-- 5: output shorter than the answer
abbrev pub too_short : ℕ → ℕ → Bool
too_short room needed = ltb room needed
