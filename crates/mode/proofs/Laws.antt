-- Laws of step 2 over any blocks: the pre-authenticator of adjoining blocks is the join of theirs.
use mathlib.Core.Path.{◌≡◌, refl, sym, ap, ap₂, ◌∙◌}
use mathlib.Core.List.{List, [], ◌∷◌, ◌++◌, append_assoc}
use mathlib.Core.Bool.{Bool, true, false, cond}
use Prim.Native.Nat.{ℕ, zero, suc}
use native.Mathlib.Nat.{add_comm}
use lib.ListN.{length, length-append}
use Rattle.blocks.specs.Bytes.{xor_bytes}
use Rattle.blocks.proofs.XorBytes.{xor_bytes-zeros, xor_bytes_comm, xor_bytes_assoc, length-xor}
use Rattle.blocks.specs.Bytes.{same}
use Rattle.gf128.specs.Gf128.{times_x, jump, carry, shift_left, reduction}
use Rattle.gf128.proofs.TimesX.{length-times_x, length-jump, jump-xor, jump-add}
use Rattle.fips197.specs.Aes.{KeyLength}
use Rattle.mode.specs.Mode.{Cipher, Lawful, Source, plaintext, ciphertext, zero_block, key_block, encrypt, start_mask, middletext, written, pass, unbroken}
use Rattle.mode.proofs.Keys.{key_block-long}

abbrev pub AllLong : List (List ℕ) → Type 0
AllLong [] = Unit {0}
AllLong (b ∷ bs) = (length b ≡ 16) × AllLong bs

pub all_left : (x y : List (List ℕ)) → AllLong (x ++ y) → AllLong x
all_left [] y h = tt
all_left (b ∷ x) y h = (h.0, all_left x y h.1)

pub all_right : (x y : List (List ℕ)) → AllLong (x ++ y) → AllLong y
all_right [] y h = h
all_right (b ∷ x) y h = all_right x y h.1

pub jump_next : (n : ℕ) (b : List ℕ) → jump n (times_x b) ≡ jump (suc n) b
unfolding jump
jump_next zero b = refl
jump_next (suc n) b = ap times_x (jump_next n b)

zero-times_x : times_x zero_block ≡ zero_block
unfolding times_x carry shift_left reduction xor_bytes
zero-times_x = refl

zero_xor : (t : List ℕ) → length t ≡ 16 → xor_bytes zero_block t ≡ t
zero_xor t h = xor_bytes_comm zero_block t ∙ xor_bytes-zeros 16 t h

pub xor-long : (a b : List ℕ) → length a ≡ 16 → length b ≡ 16 → length (xor_bytes a b) ≡ 16
xor-long a b p q = length-xor a b (p ∙ sym q) ∙ p

module _ (c : Cipher) (laws : Lawful c) (s : Source) (key : List ℕ) (key-size : KeyLength key) where
  pub middle_long : (mask b : List ℕ) → length mask ≡ 16 → length b ≡ 16 → length (middletext c s key mask b) ≡ 16
  middle_long mask b hm hb = by s
    where
      by : (s : Source) → length (middletext c s key mask b) ≡ 16
      by plaintext = unfold middletext in laws.first_half-long key (xor_bytes b mask) key-size (xor-long b mask hb hm)
      by ciphertext = unfold middletext in laws.second_half_back_long key (xor_bytes b mask) key-size (xor-long b mask hb hm)

  -- the mask after some blocks
  pub pass_mask : (bs : List (List ℕ)) (mask pre : List ℕ) → (pass c s key bs mask pre).mask ≡ jump (length bs) mask
  unfolding pass jump
  pass_mask [] mask pre = refl
  pass_mask (b ∷ bs) mask pre = pass_mask bs (times_x mask) (xor_bytes (times_x pre) (middletext c s key mask b)) ∙ jump_next (length bs) mask

  -- what is written does not depend on the pre-authenticator
  pub output_free : (bs : List (List ℕ)) (mask p q : List ℕ) → (pass c s key bs mask p).output ≡ (pass c s key bs mask q).output
  unfolding pass
  output_free [] mask p q = refl
  output_free (b ∷ bs) mask p q =
      ap (λ (r : List ℕ). written c s key mask (middletext c s key mask b) ++ r)
      (output_free bs (times_x mask) (xor_bytes (times_x p) (middletext c s key mask b)) (xor_bytes (times_x q) (middletext c s key mask b)))

  pub output-append : (x y : List (List ℕ)) (mask p q : List ℕ)
      → (pass c s key (x ++ y) mask p).output ≡ (pass c s key x mask p).output ++ (pass c s key y (jump (length x) mask) q).output
  unfolding pass jump
  output-append [] y mask p q = output_free y mask p q
  output-append (b ∷ x) y mask p q =
      ap (λ (r : List ℕ). written c s key mask (middletext c s key mask b) ++ r)
      (output-append x y (times_x mask) (xor_bytes (times_x p) (middletext c s key mask b)) q
      ∙ ap (λ (m : List ℕ). (pass c s key x (times_x mask) (xor_bytes (times_x p) (middletext c s key mask b))).output ++ (pass c s key y m q).output) (jump_next (length x) mask))
      ∙ sym (append_assoc (written c s key mask (middletext c s key mask b)) _ _)

  pub preauthenticator_long : (bs : List (List ℕ)) (mask p : List ℕ) → AllLong bs → length mask ≡ 16 → length p ≡ 16 → length (pass c s key bs mask p).preauthenticator ≡ 16
  unfolding pass
  preauthenticator_long [] mask p hs hm hp = hp
  preauthenticator_long (b ∷ bs) mask p hs hm hp =
      preauthenticator_long bs (times_x mask) (xor_bytes (times_x p) (middletext c s key mask b)) hs.1 (length-times_x mask hm)
      (xor-long (times_x p) (middletext c s key mask b) (length-times_x p hp) (middle_long mask b hm hs.0))

  -- a pre-authenticator that went in comes out multiplied, and added
  pub preauthenticator_from : (bs : List (List ℕ)) (mask p : List ℕ) → AllLong bs → length mask ≡ 16 → length p ≡ 16
      → (pass c s key bs mask p).preauthenticator ≡ xor_bytes (jump (length bs) p) (pass c s key bs mask zero_block).preauthenticator
  unfolding pass jump
  preauthenticator_from [] mask p hs hm hp = sym (xor_bytes-zeros 16 p hp)
  preauthenticator_from (b ∷ bs) mask p hs hm hp =
      preauthenticator_from bs (times_x mask) (xor_bytes (times_x p) t) hs.1 mask'_long (xor-long (times_x p) t p'_long t_long)
      ∙ ap (λ (x : List ℕ). xor_bytes x rest) (jump-xor (length bs) (times_x p) t p'_long t_long)
      ∙ xor_bytes_assoc (jump (length bs) (times_x p)) (jump (length bs) t) rest
      ∙ ap₂ xor_bytes (jump_next (length bs) p)
      (sym (preauthenticator_from bs (times_x mask) t hs.1 mask'_long t_long)
      ∙ ap (λ (x : List ℕ). (pass c s key bs (times_x mask) x).preauthenticator)
      (sym (ap (λ (z : List ℕ). xor_bytes z t) zero-times_x ∙ zero_xor t t_long)))
    where
      t : List ℕ
      t = middletext c s key mask b

      rest : List ℕ
      rest = (pass c s key bs (times_x mask) zero_block).preauthenticator

      t_long : length (middletext c s key mask b) ≡ 16
      t_long = middle_long mask b hm hs.0

      mask'_long : length (times_x mask) ≡ 16
      mask'_long = length-times_x mask hm

      p'_long : length (times_x p) ≡ 16
      p'_long = length-times_x p hp

  pub preauthenticator_append : (x y : List (List ℕ)) (mask p : List ℕ)
      → (pass c s key (x ++ y) mask p).preauthenticator ≡ (pass c s key y (jump (length x) mask) (pass c s key x mask p).preauthenticator).preauthenticator
  unfolding pass jump
  preauthenticator_append [] y mask p = refl
  preauthenticator_append (b ∷ x) y mask p =
      preauthenticator_append x y (times_x mask) (xor_bytes (times_x p) (middletext c s key mask b))
      ∙ ap (λ (m : List ℕ). (pass c s key y m (pass c s key x (times_x mask) (xor_bytes (times_x p) (middletext c s key mask b))).preauthenticator).preauthenticator)
      (jump_next (length x) mask)

  module _ (iv : List ℕ) (iv-long : length iv ≡ 16) where
    pub start-long : length (start_mask c key iv) ≡ 16
    unfolding start_mask encrypt
    start-long = by (key_block key) (key_block-long key key-size) (same (xor_bytes (encrypt c key (xor_bytes iv (key_block key))) (key_block key)) zero_block)
      where
        by : (k : List ℕ) → length k ≡ 16 → (z : Bool) → length (cond z k (xor_bytes (encrypt c key (xor_bytes iv k)) k)) ≡ 16
        by k h true = h
        by k h false =
            xor-long (encrypt c key (xor_bytes iv k)) k
            (laws.second_half-long key (c.first_half key (xor_bytes iv k)) key-size (laws.first_half-long key (xor_bytes iv k) key-size (xor-long iv k iv-long h))) h

    -- the mask where nothing is cut is the start mask jumped
    pub mask_there : (before : List (List ℕ)) → (unbroken c s key iv before).mask ≡ jump (length before) (start_mask c key iv)
    unfolding unbroken
    mask_there before = pass_mask before (start_mask c key iv) zero_block

    -- THE LAW: the pre-authenticator of adjoining blocks is the join of theirs
    pub preauthenticator_joined : (before x y : List (List ℕ)) → AllLong (x ++ y)
        → (pass c s key (x ++ y) (unbroken c s key iv before).mask zero_block).preauthenticator
        ≡ xor_bytes (jump (length y) (pass c s key x (unbroken c s key iv before).mask zero_block).preauthenticator)
        (pass c s key y (unbroken c s key iv (before ++ x)).mask zero_block).preauthenticator
    preauthenticator_joined before x y h =
        preauthenticator_append x y m zero_block
        ∙ preauthenticator_from y (jump (length x) m) (pass c s key x m zero_block).preauthenticator (all_right x y h) (length-jump (length x) m m_long)
        (preauthenticator_long x m zero_block (all_left x y h) m_long refl)
        ∙ ap (λ (k : List ℕ). xor_bytes (jump (length y) (pass c s key x m zero_block).preauthenticator) (pass c s key y k zero_block).preauthenticator) same_mask
      where
        m : List ℕ
        m = (unbroken c s key iv before).mask

        m_long : length (unbroken c s key iv before).mask ≡ 16
        m_long = rw (mask_there before) (length-jump (length before) (start_mask c key iv) start-long)

        same_mask : jump (length x) (unbroken c s key iv before).mask ≡ (unbroken c s key iv (before ++ x)).mask
        same_mask =
            ap (jump (length x)) (mask_there before)
            ∙ sym (jump-add (length x) (length before) (start_mask c key iv))
            ∙ ap (λ (n : ℕ). jump n (start_mask c key iv)) (add_comm (length x) (length before) ∙ sym (length-append before x))
            ∙ sym (mask_there (before ++ x))
