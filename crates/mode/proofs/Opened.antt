-- The rows of opening: a message that is found is given where the output has room for it, and refused with 5 where it has not. From this: demand
-- 2 (d), and that an output of the old size gets the old answers.
use mathlib.Core.Path.{◌≡◌, refl, sym, ap, ap₂, ◌∙◌}
use mathlib.Core.Logic.{◌⊎◌, inl, inr, ◌↔◌}
use mathlib.Core.List.{List, [], ◌∷◌, ◌++◌, append_assoc}
use mathlib.Core.Option.{Option, some, none as no-message}
use mathlib.Core.Bool.{Bool, true, false, not}
use Prim.Native.Nat.{ℕ, ◌+◌, ◌*◌, ◌%◌, ◌≤◌, ◌<◌}
use native.Mathlib.Omega.{arith}
use lib.ListN.{length, length-append}
use lib.Seq.{length-take-le}
use borrow.Author.Tests.{ltb-true, ltb-false, le-ltb, lt-ltb, not-false}
use Rattle.blocks.specs.Bytes.{xor_bytes, same}
use Rattle.gf128.specs.Gf128.{times_x, jump}
use Rattle.gf128.proofs.TimesX.{length-times_x}
use Rattle.fips197.specs.Aes.{KeyLength}
use Rattle.fips197.proofs.Keys.{is_key, has_key}
use Rattle.mode.specs.Mode.{Cipher, Lawful, Finish, ciphertext, blocks_of, start_mask, middletext, unbroken_tag, iv_part, cipher_part, tag_part, UnbrokenCheck}
use Rattle.mode.specs.Table.{Answer, refused, given, decide, NoneHolds, not_key, not_sealed, zero_mask, too_short}
use Rattle.mode.specs.Calls.{unpad_from, unpadded, not_padded, or_empty, decrypted, plaintext_of, message_of, open_rows, open_rows_within, open_sealed}
use Rattle.mode.specs.OpenBefore.{open_rows_before, open_before}
use Rattle.mode.specs.Parallel.{Fits}
use Rattle.mode.specs.Demands.{Refuses, NonzeroMask, Demand2d, OldSize}
use Rattle.mode.proofs.Decisions.{given_rows, last_row, outcome_answer, outcome_refuses}
use Rattle.mode.proofs.Laws.{AllLong, jump_next, xor-long, middle_long, start-long}
use Rattle.mode.proofs.Blocks.{length-padded, count_middle, long-blocks}
use Rattle.mode.proofs.Bytes.{unpad_sound}
use Rattle.mode.proofs.Same.{same_true, same_self}
use Rattle.mode.proofs.Segments.{not_both}
use Rattle.mode.proofs.Passed.{sealed_lengths}
use Rattle.mode.proofs.Demand3.{cipher-length}

-- ---- the message that is found

-- no row above 5 holds, and the plaintext is m with its padding
pub record Found (t : Finish) (c : Cipher) (key sealed m : List ℕ) : Type 0 where
  pub key_right : not_key key ≡ false
  pub length_right : not_sealed t sealed ≡ false
  pub masked : zero_mask c key (iv_part sealed) ≡ false
  pub tag_right : same (unbroken_tag t c ciphertext key (iv_part sealed) (blocks_of (cipher_part t sealed))) (tag_part t sealed) ≡ true
  pub message : unpadded (plaintext_of t c key sealed) ≡ some m

is_padded : (o : Option (List ℕ)) → not_padded o ≡ false → o ≡ some (or_empty o)
unfolding not_padded or_empty
is_padded no-message e = not_both (sym e)
is_padded (some m) e = refl

module _ (t : Finish) (c : Cipher) (key sealed : List ℕ) (room : ℕ) where
  abbrev message₀ : List ℕ
  message₀ = message_of t c key sealed

  abbrev tag_same : Bool
  tag_same = same (unbroken_tag t c ciphertext key (iv_part sealed) (blocks_of (cipher_part t sealed))) (tag_part t sealed)

  abbrev unpadded_text : Bool
  unpadded_text = not_padded (unpadded (plaintext_of t c key sealed))

  -- the rows above 5
  abbrev rows_above : List (ℕ × Bool)
  rows_above = (1, not_key key) ∷ (3, not_sealed t sealed) ∷ (10, zero_mask c key (iv_part sealed)) ∷ (6, not tag_same) ∷ (7, unpadded_text) ∷ []

  answer_is : (open_sealed t c key sealed room).answer ≡ decide (open_rows t c key sealed room) message₀
  unfolding open_sealed
  answer_is = outcome_answer (decide (open_rows t c key sealed room) message₀) message₀ room

  found_by : NoneHolds rows_above → Found t c key sealed message₀
  found_by h =
      record {
        key_right = h.0;
        length_right = h.1.0;
        masked = h.1.1.0;
        tag_right = not-false tag_same h.1.1.1.0;
        message = is_padded (unpadded (plaintext_of t c key sealed)) h.1.1.1.1.0;
      }

  pub given_found : (m : List ℕ) → (open_sealed t c key sealed room).answer ≡ given m → Found t c key sealed m × (length m ≤ room)
  unfolding open_rows_within
  given_found m e =
      let g = given_rows (open_rows t c key sealed room) message₀ m (sym answer_is ∙ e) in
      let h = g.0 in
      let f = found_by (h.0, (h.1.0, (h.1.1.0, (h.1.1.1.0, (h.1.1.1.1.0, tt))))) in
      let l : length message₀ ≤ room = ltb-false room (length message₀) h.1.1.1.1.1.0 in
      (rw (sym g.1) f, rw (sym g.1) l)

  pub refused_found : (open_sealed t c key sealed room).answer ≡ refused 5 → (m : List ℕ) × (Found t c key sealed m × (room < length m))
  unfolding open_rows_within
  refused_found e =
      let h = last_row rows_above 5 (too_short room (length message₀)) message₀ refl (sym answer_is ∙ e) in
      (message₀, (found_by h.0, ltb-true room (length message₀) h.1))

  module _ (m : List ℕ) (f : Found t c key sealed m) where
    left_to_decide : decide (open_rows t c key sealed room) message₀ ≡ decide ((5, too_short room (length m)) ∷ []) m
    unfolding open_rows_within decide not_padded or_empty
    left_to_decide = rw (f.key_right, f.length_right, f.masked, f.tag_right, f.message)

    pub found_given : length m ≤ room → (open_sealed t c key sealed room).answer ≡ given m
    unfolding decide
    found_given h = answer_is ∙ left_to_decide ∙ rw (le-ltb room (length m) h)

    pub found_refused : room < length m → Refuses (open_sealed t c key sealed room) 5 room
    unfolding open_sealed decide
    found_refused h = outcome_refuses (decide (open_rows t c key sealed room) message₀) message₀ room 5 (left_to_decide ∙ rw (lt-ltb room (length m) h))

-- ---- the plaintext

-- of adjoining blocks: the second ones from the mask after the first
pub decrypted-append : (c : Cipher) (key : List ℕ) (x y : List (List ℕ)) (mask : List ℕ)
    → decrypted c key (x ++ y) mask ≡ decrypted c key x mask ++ decrypted c key y (jump (length x) mask)
unfolding decrypted jump
decrypted-append c key [] y mask = refl
decrypted-append c key (b ∷ x) y mask =
    ap (λ (r : List ℕ). xor_bytes (c.first_half_back key (middletext c ciphertext key mask b)) mask ++ r)
    (decrypted-append c key x y (times_x mask) ∙ ap (λ (m : List ℕ). decrypted c key x (times_x mask) ++ decrypted c key y m) (jump_next (length x) mask))
    ∙ sym (append_assoc (xor_bytes (c.first_half_back key (middletext c ciphertext key mask b)) mask) _ _)

-- it is as long as the ciphertext, and the message is no longer

module _ (c : Cipher) (laws : Lawful c) (key : List ℕ) (hk : KeyLength key) where
  pub decrypted-long : (bs : List (List ℕ)) (mask : List ℕ) → AllLong bs → length mask ≡ 16 → length (decrypted c key bs mask) ≡ 16 * length bs
  unfolding decrypted
  decrypted-long [] mask hs hm = refl
  decrypted-long (b ∷ bs) mask hs hm =
      let middle = middletext c ciphertext key mask b in
      let first : length (xor_bytes (c.first_half_back key middle) mask) ≡ 16 = xor-long (c.first_half_back key middle) mask (laws.first_half_back_long key middle hk (middle_long c laws ciphertext key hk mask b hm hs.0)) hm in
      length-append (xor_bytes (c.first_half_back key middle) mask) (decrypted c key bs (times_x mask))
      ∙ ap₂ (λ (x y : ℕ). x + y) first (decrypted-long bs (times_x mask) hs.1 (length-times_x mask hm))
      ∙ omega arith

  pub plaintext_long : (t : Finish) (sealed : List ℕ) → not_sealed t sealed ≡ false → length (plaintext_of t c key sealed) ≡ length (cipher_part t sealed)
  unfolding plaintext_of Fits iv_part
  plaintext_long t sealed e =
      let l = sealed_lengths t sealed e in
      let n = cipher-length t sealed (omega (arith, l.0)) in
      let aligned : length (cipher_part t sealed) % 16 ≡ 0 = ap (λ (k : ℕ). k % 16) n ∙ l.2 in
      decrypted-long (blocks_of (cipher_part t sealed)) (start_mask c key (iv_part sealed)) (long-blocks (cipher_part t sealed) aligned)
      (start-long c laws ciphertext key hk (iv_part sealed) (length-take-le 16 sealed (omega (arith, l.0))))
      ∙ ap (λ (k : ℕ). 16 * k) (count_middle (cipher_part t sealed))
      ∙ omega (arith, aligned)

  pub message_within : (t : Finish) (sealed : List ℕ) → not_sealed t sealed ≡ false → length (message_of t c key sealed) ≤ length (cipher_part t sealed)
  unfolding unpadded or_empty
  message_within t sealed e = by (unpad_from 16 (plaintext_of t c key sealed)) refl
    where
      by : (o : Option (List ℕ)) → unpad_from 16 (plaintext_of t c key sealed) ≡ o → length (or_empty o) ≤ length (cipher_part t sealed)
      by no-message p = omega arith
      by (some m) p =
          let n = ap length (unpad_sound 16 (plaintext_of t c key sealed) m p) ∙ plaintext_long t sealed e in
          omega (arith, n, length-padded m)

-- ---- THE OLD SIZE

pub old_size : (t : Finish) (c : Cipher) → Lawful c → OldSize t c
unfolding open_sealed open_before open_rows_within open_rows_before decide
old_size t c laws key sealed room h = by (not_key key) (not_sealed t sealed) refl refl
  where
    by : (k s : Bool) → not_key key ≡ k → not_sealed t sealed ≡ s → open_sealed t c key sealed room ≡ open_before t c key sealed room
    by true s p q = rw p
    by false true p q = rw (p, q)
    by false false p q =
        let w = message_within c laws key (has_key key p) t sealed q in
        rw (p, q, le-ltb room (length (cipher_part t sealed)) (omega (arith, h)), le-ltb room (length (message_of t c key sealed)) (omega (arith, w, h)))

-- ---- DEMAND 2 (d)

-- where the rows 6, 7 and 5 are left to decide
abbrev contents : {A : Type 0} → Bool → Bool → Bool → A → Answer A
contents right unpadded short m = decide ((6, not right) ∷ (7, unpadded) ∷ (5, short) ∷ []) m

right_or_six : (right unpadded short : Bool) (m : List ℕ) (a : Answer (List ℕ)) → a ≡ contents right unpadded short m
    → (right ≡ true) ↔ (((x : List ℕ) × (a ≡ given x)) ⊎ ((a ≡ refused 7) ⊎ (a ≡ refused 5)))
unfolding decide
right_or_six true true short m a e = (λ r. inr (inl e), λ h. refl)
right_or_six true false true m a e = (λ r. inr (inr e), λ h. refl)
right_or_six true false false m a e = (λ r. inl (m, e), λ h. refl)
right_or_six false unpadded short m a e = (λ r. not_both r, six)
  where
    six : ((x : List ℕ) × (a ≡ given x)) ⊎ ((a ≡ refused 7) ⊎ (a ≡ refused 5)) → false ≡ true
    six (inl g) = absurd (let z : refused 6 ≡ given g.0 = sym e ∙ g.1 in let y : ◌≡◌ {A = ℕ} 0 1 = cc in omega arith)
    six (inr (inl s)) = absurd (let z : ◌≡◌ {A = Answer (List ℕ)} (refused 6) (refused 7) = sym e ∙ s in let y : ◌≡◌ {A = ℕ} 6 7 = cc in omega arith)
    six (inr (inr f)) = absurd (let z : ◌≡◌ {A = Answer (List ℕ)} (refused 6) (refused 5) = sym e ∙ f in let y : ◌≡◌ {A = ℕ} 6 5 = cc in omega arith)

-- the same with no row 5
right_or_refused : (right unpadded : Bool) (m : List ℕ) (a : Answer (List ℕ)) → a ≡ contents right unpadded false m
    → (right ≡ true) ↔ (((x : List ℕ) × (a ≡ given x)) ⊎ (a ≡ refused 7))
unfolding decide
right_or_refused right unpadded m a e = (λ r. to right unpadded r e, from)
  where
    to : (right unpadded : Bool) → right ≡ true → a ≡ contents right unpadded false m → ((x : List ℕ) × (a ≡ given x)) ⊎ (a ≡ refused 7)
    to true true r e = inr e
    to true false r e = inl (m, e)
    to false unpadded r e = not_both r

    from : ((x : List ℕ) × (a ≡ given x)) ⊎ (a ≡ refused 7) → right ≡ true
    from (inl g) = (right_or_six right unpadded false m a e).1 (inl g)
    from (inr s) = (right_or_six right unpadded false m a e).1 (inr (inl s))

module _ (t : Finish) (c : Cipher) (key sealed : List ℕ) (room : ℕ) (nz : NonzeroMask c key (iv_part sealed)) (hk : KeyLength key) (hs : not_sealed t sealed ≡ false) where
  -- rows 1, 3 and 10 do not hold
  by_contents_lem : (open_sealed t c key sealed room).answer
      ≡ contents (tag_same t c key sealed room) (unpadded_text t c key sealed room) (too_short room (length (message_of t c key sealed))) (message_of t c key sealed)
  unfolding open_rows_within decide
  by_contents_lem = answer_is t c key sealed room ∙ rw (is_key key hk, hs, nz)

  -- the check is the comparison of row 6
  checked : UnbrokenCheck t c key sealed ↔ (tag_same t c key sealed room ≡ true)
  unfolding UnbrokenCheck
  checked =
      let tag = unbroken_tag t c ciphertext key (iv_part sealed) (blocks_of (cipher_part t sealed)) in
      (λ e. ap (same tag) (sym e) ∙ same_self tag, λ e. same_true tag (tag_part t sealed) e)

chain : {A B C : Type 0} → A ↔ B → B ↔ C → A ↔ C
chain f g = (λ a. g.0 (f.0 a), λ b. f.1 (g.1 b))

pub demand2d : (t : Finish) (c : Cipher) → Lawful c → Demand2d t c
demand2d t c laws =
    record {
      lent_enough = λ key sealed room nz hk hs h.
          let w = message_within c laws key hk t sealed hs in
          let fits = le-ltb room (length (message_of t c key sealed)) (omega (arith, w, h)) in
          chain (checked t c key sealed room nz hk hs)
          (right_or_refused (tag_same t c key sealed room) (unpadded_text t c key sealed room) (message_of t c key sealed) _
          (by_contents_lem t c key sealed room nz hk hs ∙ ap (λ (b : Bool). contents (tag_same t c key sealed room) (unpadded_text t c key sealed room) b (message_of t c key sealed)) fits));
      lent_any = λ key sealed room nz hk hs.
          chain (checked t c key sealed room nz hk hs)
          (right_or_six (tag_same t c key sealed room) (unpadded_text t c key sealed room) (too_short room (length (message_of t c key sealed))) (message_of t c key sealed) _
          (by_contents_lem t c key sealed room nz hk hs));
    }
