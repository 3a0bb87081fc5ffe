-- The last block: where its padding starts, and what that says of the whole plaintext.
use mathlib.Core.Path.{◌≡◌, refl, sym, ap, ap₂, ◌∙◌}
use mathlib.Core.Bool.{Bool, true, false}
use mathlib.Core.List.{List, ◌∷◌, ◌++◌}
use mathlib.Core.Option.{Option, some, none as no-message}
use Prim.Native.Nat.{ℕ, suc, ◌+◌, ◌*◌, ◌-◌, ◌/◌, ◌%◌, ◌≤◌, ◌<◌}
use native.Mathlib.Omega.{arith}
use borrow.Author.Tests.{ltb-true, ltb-false}
use lib.Dec.{ltb}
use lib.ListN.{length, take, drop, get_or, length-append, take-append-drop}
use lib.Seq.{get_or-drop, drop-cons, drop-length, split_at, take_at, drop_at, length-take-le}
use Rattle.std.specs.Prelude.{None, Some}
use Rattle.blocks.specs.Bytes.{zeros}
use Rattle.mode.specs.Mode.{padded}
use Rattle.mode.specs.Calls.{unpad_from, unpadded}
use Rattle.mode.proofs.Blocks.{length-padded, padded-append}
use Rattle.mode.proofs.Bytes.{zeros_at, mark_at, zero_past, unpad_sound, unpad_complete}
use Rattle.opening.specs.Work.{end_by, message_end}

-- a place that was found is one place, and not none
some_is : (a b : ℕ) → Some a ≡ Some b → a ≡ b
some_is a b e = grind arith

not_none : (a : ℕ) → Some a ≡ None → ⊥
not_none a e = grind arith

-- ---- the mark 80 and the zeros behind it

zero-from : (text : List ℕ) (e n j : ℕ) → drop e text ≡ zeros n → e ≤ j → get_or text j 0 ≡ 0
zero-from text e n j z h =
    ap (λ (k : ℕ). get_or text k 0) (let q : j ≡ e + (j - e) = omega arith in q) ∙ sym (get_or-drop e text (j - e) 0) ∙ ap (λ (l : List ℕ). get_or l (j - e) 0) z ∙ zeros_at n (j - e)

module _ (text m : List ℕ) (p : padded m ≡ text) where
  mark_there : get_or text (length m) 0 ≡ 0x80
  mark_there = ap (λ (l : List ℕ). get_or l (length m) 0) (sym p) ∙ mark_at m

  zero-after : (j : ℕ) → length m < j → get_or text j 0 ≡ 0
  zero-after j h = ap (λ (l : List ℕ). get_or l j 0) (sym p) ∙ zero_past m j h

  -- a byte in front of zeros that is neither 80 nor 0: nothing was padded
  pub other_byte : (e n : ℕ) → drop (suc e) text ≡ zeros n → (get_or text e 0 ≡ 0x80 → ⊥) → (get_or text e 0 ≡ 0 → ⊥) → ⊥
  other_byte e n z h k = by (ltb e (length m)) (ltb (length m) e) refl refl
    where
      by : (s t : Bool) → ltb e (length m) ≡ s → ltb (length m) e ≡ t → ⊥
      by true t a b =
          let o = zero-from text (suc e) n (length m) z (let q : e < length m = ltb-true e (length m) a in omega arith) in
          let q : ◌≡◌ {A = ℕ} 0x80 0 = sym mark_there ∙ o in
          omega arith
      by false true a b = k (zero-after e (ltb-true (length m) e b))
      by false false a b =
          let q : e ≡ length m = (let u : length m ≤ e = ltb-false e (length m) a in let v : e ≤ length m = ltb-false (length m) e b in omega arith) in
          h (ap (λ (j : ℕ). get_or text j 0) q ∙ mark_there)

  -- nor where all is zero
  pub all_zero : (n : ℕ) → text ≡ zeros n → ⊥
  all_zero n z =
      let o = zero-from text 0 n (length m) z (omega arith) in
      let q : ◌≡◌ {A = ℕ} 0x80 0 = sym mark_there ∙ o in
      omega arith

  pub found : unpadded text ≡ some m
  unfolding unpadded
  found = ap (unpad_from 16) (sym p) ∙ unpad_complete 16 m (rw (length-padded m) (omega arith))

-- ---- the search from the end

module _ (block : List ℕ) (long : length block ≡ 16) where
  pub nothing_behind : drop 16 block ≡ zeros (16 - 16)
  nothing_behind = ap (λ (n : ℕ). drop n block) (sym long) ∙ drop-length block

  pub one_more : (end : ℕ) → 0 < end → end ≤ 16 → get_or block (end - 1) 0 ≡ 0 → drop end block ≡ zeros (16 - end) → drop (end - 1) block ≡ zeros (16 - (end - 1))
  one_more end h l b z =
      drop-cons block (end - 1) 0 (omega (arith, long))
      ∙ ap₂ (λ (x : ℕ) (y : List ℕ). x ∷ y) b (ap (λ (j : ℕ). drop j block) (let k : suc (end - 1) ≡ end = omega arith in k) ∙ z)
      ∙ ap zeros (let q : suc (16 - end) ≡ 16 - (end - 1) = omega arith in q)

  pub ends_there : (end : ℕ) → 0 < end → end ≤ 16 → get_or block (end - 1) 0 ≡ 0x80 → drop end block ≡ zeros (16 - end) → Some (end - 1) ≡ message_end block
  unfolding message_end end_by padded
  ends_there end h l b z =
      let n : length (take (end - 1) block) ≡ end - 1 = length-take-le (end - 1) block (omega (arith, long)) in
      let k : 16 - end ≡ 15 - length (take (end - 1) block) % 16 = omega (arith, n) in
      let s : suc (end - 1) ≡ end = omega arith in
      let p : padded (take (end - 1) block) ≡ block =
      sym (split_at block (end - 1) 0 (omega (arith, long)) ∙ ap₂ (λ (x : ℕ) (y : List ℕ). take (end - 1) block ++ (x ∷ y)) b (ap (λ (j : ℕ). drop j block) s ∙ z ∙ ap zeros k)) in
      sym (ap end_by (found block (take (end - 1) block) p) ∙ ap (λ (k : ℕ). Some k) n)

  pub ends_nowhere : ((m : List ℕ) → padded m ≡ block → ⊥) → None ≡ message_end block
  unfolding message_end end_by unpadded
  ends_nowhere h = by (unpad_from 16 block) refl
    where
      by : (o : Option (List ℕ)) → unpad_from 16 block ≡ o → None ≡ end_by o
      by no-message q = refl
      by (some m) q = absurd (h m (unpad_sound 16 block m q))

  -- what was padded to a block is shorter than it
  shorter : (m : List ℕ) → padded m ≡ block → length m < 16
  shorter m p = let n = sym (length-padded m) ∙ ap length p ∙ long in omega (arith, n)

  pub end_within : (end : ℕ) → Some end ≡ message_end block → end < 16
  unfolding message_end end_by unpadded
  end_within end = by (unpad_from 16 block) refl
    where
      by : (o : Option (List ℕ)) → unpad_from 16 block ≡ o → Some end ≡ end_by o → end < 16
      by no-message q e = absurd (not_none end e)
      by (some m) q e = let k = some_is end (length m) e in omega (arith, k, shorter m (unpad_sound 16 block m q))

  -- ---- behind whole blocks

  module _ (front : List ℕ) (aligned : length front % 16 ≡ 0) where
    -- what is padded to the whole is the front and what is padded to the block
    block-padded : (n : List ℕ) → padded n ≡ front ++ block → padded (drop (length front) n) ≡ block
    block-padded n p =
        let k = length front in
        let whole : 16 * (length n / 16 + 1) ≡ k + 16 = sym (length-padded n) ∙ ap length p ∙ length-append front block ∙ ap (λ (j : ℕ). k + j) long in
        let l : length (take k n) ≡ k = length-take-le k n (omega (arith, whole, aligned)) in
        let s : take k n ++ padded (drop k n) ≡ front ++ block =
        sym (padded-append (take k n) (drop k n) (ap (λ (j : ℕ). j % 16) l ∙ aligned)) ∙ ap padded (take-append-drop k n) ∙ p in
        sym (drop_at (take k n) (padded (drop k n)) k l) ∙ ap (drop k) s ∙ drop_at front block k refl

    pub none_behind : None ≡ message_end block → unpadded (front ++ block) ≡ no-message
    unfolding message_end end_by unpadded
    none_behind e = by (unpad_from 16 (front ++ block)) refl
      where
        by : (o : Option (List ℕ)) → unpad_from 16 (front ++ block) ≡ o → o ≡ no-message
        by no-message q = refl
        by (some n) q =
            let p = block-padded n (unpad_sound 16 (front ++ block) n q) in
            absurd (let l = e ∙ ap end_by (unfold unpadded in (found block (drop (length front) n) p)) in not_none (length (drop (length front) n)) (sym l))

    message_front : (m : List ℕ) (end : ℕ) → padded m ≡ block → end ≡ length m → take end block ≡ m
    unfolding padded
    message_front m end p l = ap (take end) (sym p) ∙ take_at m (0x80 ∷ zeros (15 - length m % 16)) end (sym l)

    whole_found : (m : List ℕ) (end : ℕ) → padded m ≡ block → end ≡ length m → unpadded (front ++ block) ≡ some (front ++ take end block)
    whole_found m end p l =
        found (front ++ block) (front ++ m) (padded-append front m aligned ∙ ap (λ (x : List ℕ). front ++ x) p)
        ∙ ap (λ (x : List ℕ). some (front ++ x)) (sym (message_front m end p l))

    pub some_behind : (end : ℕ) → Some end ≡ message_end block → unpadded (front ++ block) ≡ some (front ++ take end block)
    unfolding message_end end_by unpadded
    some_behind end = by (unpad_from 16 block) refl
      where
        by : (o : Option (List ℕ)) → unpad_from 16 block ≡ o → Some end ≡ end_by o → unpad_from 16 (front ++ block) ≡ some (front ++ take end block)
        by no-message q k = absurd (not_none end k)
        by (some m) q k = whole_found m end (unpad_sound 16 block m q) (some_is end (length m) k)
