-- What the rows leave to decide: the tag, then the padding and the room.
use mathlib.Core.Path.{◌≡◌, refl, sym, ap, ◌∙◌}
use mathlib.Core.Bool.{Bool, true, false, not}
use mathlib.Core.List.{List, [], ◌∷◌, ◌++◌}
use mathlib.Core.Option.{Option}
use Prim.Native.Nat.{ℕ, ◌+◌, ◌-◌, ◌%◌, ◌≤◌, ◌<◌}
use native.Mathlib.Omega.{arith}
use borrow.Author.Tests.{lt-ltb, le-ltb}
use lib.ListN.{length, take, length-append, length-drop}
use lib.Seq.{length-take-le}
use Rattle.std.specs.Prelude.{Ok, Err, None, Some}
use Rattle.blocks.specs.Bytes.{zeros, same}
use Rattle.fips197.specs.Aes.{KeyLength}
use Rattle.mode.specs.Mode.{Finish, overhead, ciphertext, blocks_of, iv_part, cipher_part, tag_part, unbroken_tag}
use Rattle.mode.specs.Aes.{aes}
use Rattle.mode.specs.Table.{Answer, refused, given, decide, first_row, too_short}
use Rattle.mode.specs.declared.refusal.Refusal.{Refusal}
use Rattle.mode.specs.declared.refusal.Refusal.TheVariants.{OutputTooShort, Padding}
use Rattle.mode.specs.Refusals.{passed, refusal_of}
use Rattle.mode.specs.Calls.{outcome_by, unpadded, not_padded, or_empty, plaintext_of, message_of, open_rows, open_rows_within, open_sealed, written_of}
use Rattle.mode.specs.Parallel.{Fits}
use Rattle.mode.proofs.Answers.{named, has_refused, refused_written, refused_output, given_written, given_output}
use Rattle.mode.proofs.Passed.{head_passed, tail_passed, key_passed, sealed_lengths}
use Rattle.mode.proofs.Rows.{first_passes, first-refuses}
use Rattle.mode.proofs.Demand3.{cipher-length}
use Rattle.opening.specs.Work.{open_first_rows, Ciphertext, message_end, released}
use Rattle.opening.proofs.Padding.{end_within, none_behind, some_behind}

-- ---- the rows by lengths

-- what is known where none holds
pub record Lengths (t : Finish) (key sealed : List ℕ) : Type 0 where
  pub key-long : KeyLength key
  pub least : 16 + overhead t ≤ length sealed
  pub aligned : (length sealed - overhead t) % 16 ≡ 0

pub lengths_passed : (t : Finish) (key sealed : List ℕ) → first_row (open_first_rows t key sealed) ≡ 0 → Lengths t key sealed
unfolding Fits
lengths_passed t key sealed e =
    let l = sealed_lengths t sealed (head_passed 2 _ _ (tail_passed 0 _ _ e)) in
    record { key-long = key_passed key _ e; least = l.0; aligned = l.2 }

pub length_tag : (t : Finish) (sealed : List ℕ) → 16 + overhead t ≤ length sealed → length (tag_part t sealed) ≡ t.tag_length
unfolding tag_part
length_tag t sealed h = length-drop (length sealed - t.tag_length) sealed ∙ omega arith

-- the ciphertext in its record
pub is_ciphertext : (t : Finish) (key sealed text : List ℕ) → Lengths t key sealed → text ≡ cipher_part t sealed → Ciphertext text
is_ciphertext t key sealed text l e =
    let n : length text ≡ length sealed - overhead t = ap length e ∙ cipher-length t sealed (omega (arith, l.least)) in
    record { least = omega (arith, n, l.least); aligned = ap (λ (k : ℕ). k % 16) n ∙ l.aligned }

pub length-iv : (t : Finish) (key sealed : List ℕ) → Lengths t key sealed → length (take 16 sealed) ≡ 16
length-iv t key sealed l = length-take-le 16 sealed (omega (arith, l.least))

-- ---- the tag

abbrev tag_given : Finish → List ℕ → List ℕ → List ℕ
tag_given t key sealed = unbroken_tag t aes ciphertext key (iv_part sealed) (blocks_of (cipher_part t sealed))

module _ (t : Finish) (key sealed : List ℕ) (room : ℕ) where
  abbrev message : List ℕ
  message = message_of t aes key sealed

  abbrev by_contents : Bool → List (ℕ × Bool)
  by_contents right = (6, not right) ∷ (7, not_padded (unpadded (plaintext_of t aes key sealed))) ∷ (5, too_short room (length message)) ∷ []

  pub lengths_refused : {r : Refusal} → Err r ≡ passed (first_row (open_first_rows t key sealed))
      → (decide (open_rows t aes key sealed room) message ≡ refused (first_row (open_first_rows t key sealed))) × (r ≡ refusal_of (first_row (open_first_rows t key sealed)))
  unfolding open_rows_within
  lengths_refused e =
      let h = has_refused (first_row (open_first_rows t key sealed)) e in
      (first-refuses (open_first_rows t key sealed) (by_contents (same (tag_given t key sealed) (tag_part t sealed))) message _ refl h.0, h.1)

  module _ (e : first_row (open_first_rows t key sealed) ≡ 0) where
    left_to_decide : decide (open_rows t aes key sealed room) message ≡ decide (by_contents (same (tag_given t key sealed) (tag_part t sealed))) message
    unfolding open_rows_within
    left_to_decide = first_passes (open_first_rows t key sealed) (by_contents (same (tag_given t key sealed) (tag_part t sealed))) message tt e

    pub tag_differs : same (tag_given t key sealed) (tag_part t sealed) ≡ false → decide (open_rows t aes key sealed room) message ≡ refused 6
    unfolding decide
    tag_differs d = left_to_decide ∙ ap (λ (right : Bool). decide (by_contents right) message) d

    pub tag_right : same (tag_given t key sealed) (tag_part t sealed) ≡ true → open_sealed t aes key sealed room ≡ released (plaintext_of t aes key sealed) room
    unfolding decide open_sealed released
    tag_right d = ap (λ (a : Answer (List ℕ)). outcome_by a message room) (left_to_decide ∙ ap (λ (right : Bool). decide (by_contents right) message) d)

-- ---- the padding, and the room

abbrev rows_by : Option (List ℕ) → ℕ → List (ℕ × Bool)
rows_by o room = (7, not_padded o) ∷ (5, too_short room (length (or_empty o))) ∷ []

module _ (front block : List ℕ) (room : ℕ) (aligned : length front % 16 ≡ 0) (long : length block ≡ 16) where
  abbrev unpadded_whole : Option (List ℕ)
  unpadded_whole = unpadded (front ++ block)

  pub nothing-released : None ≡ message_end block → (Err Padding ≡ written_of (released (front ++ block) room)) × (zeros room ≡ (released (front ++ block) room).output)
  unfolding released decide not_padded or_empty
  nothing-released e =
      let d : decide (rows_by unpadded_whole room) (or_empty unpadded_whole) ≡ refused 7 = ap (λ (o : Option (List ℕ)). decide (rows_by o room) (or_empty o)) (none_behind block long front aligned e) in
      (refused_written _ _ room d (sym (named Padding)), refused_output _ _ room d)

  module _ (end : ℕ) (en : Some end ≡ message_end block) where
    message_long : length (front ++ take end block) ≡ length front + end
    message_long = length-append front (take end block) ∙ ap (λ (n : ℕ). length front + n) (length-take-le end block (omega (arith, long, end_within block long end en)))

    decided : decide (rows_by unpadded_whole room) (or_empty unpadded_whole) ≡ decide ((5, too_short room (length front + end)) ∷ []) (front ++ take end block)
    unfolding decide not_padded or_empty
    decided =
        ap (λ (o : Option (List ℕ)). decide (rows_by o room) (or_empty o)) (some_behind block long front aligned end en)
        ∙ ap (λ (n : ℕ). decide ((5, too_short room n) ∷ []) (front ++ take end block)) message_long

    pub short_of_room : room < length front + end → (Err OutputTooShort ≡ written_of (released (front ++ block) room)) × (zeros room ≡ (released (front ++ block) room).output)
    unfolding released decide
    short_of_room s =
        let d : decide (rows_by unpadded_whole room) (or_empty unpadded_whole) ≡ refused 5 = decided ∙ rw (lt-ltb room (length front + end) s) in
        (refused_written _ _ room d (sym (named OutputTooShort)), refused_output _ _ room d)

    pub message_released : length front + end ≤ room
        → (Ok (length front + end) ≡ written_of (released (front ++ block) room)) × (front ++ take end block ++ zeros (room - (length front + end)) ≡ (released (front ++ block) room).output)
    unfolding released decide or_empty
    message_released s =
        let d : decide (rows_by unpadded_whole room) (or_empty unpadded_whole) ≡ given (front ++ take end block) = decided ∙ rw (le-ltb room (length front + end) s) in
        let m : or_empty unpadded_whole ≡ front ++ take end block = ap or_empty (some_behind block long front aligned end en) in
        let l : length (or_empty unpadded_whole) ≡ length front + end = ap length m ∙ message_long in
        (given_written _ _ room _ (length front + end) d l, ap (λ (x : List ℕ). x ++ zeros (room - (length front + end))) (sym m) ∙ given_output _ _ room _ (length front + end) d l)
