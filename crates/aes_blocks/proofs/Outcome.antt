-- What a refusal says of the lengths, and what the call leaves.
use mathlib.Core.Path.{◌≡◌, refl, sym, ap, ap₂, ◌∙◌}
use mathlib.Core.Bool.{Bool, true, false, cond, not}
use mathlib.Core.List.{List, ◌++◌}
use Prim.Native.Nat.{ℕ, ◌-◌, ◌*◌, ◌/◌, ◌%◌, ◌≤◌, ◌<◌}
use native.Mathlib.Omega.{arith}
use lib.Dec.{eqb, ltb}
use lib.ListN.{length, drop}
use borrow.Author.Tests.{eqb-true, eq-eqb, ne_eqb, lt-ltb, le-ltb, ltb-false, not-false}
use Rattle.blocks.specs.Bytes.{zeros}
use Rattle.blocks.proofs.Zeros.{drop-zeros}
use Rattle.fips197.specs.Aes.{KeyLength, not_key}
use Rattle.fips197.proofs.Keys.{has_key}
use Rattle.aes_blocks.specs.Answer.{number_of}
use Rattle.aes_blocks.specs.declared.refusal.Refusal.{Refusal}
use Rattle.aes_blocks.specs.declared.refusal.Refusal.TheVariants.{KeyLength as BadKey, TextLength, OutputTooShort}
use Rattle.aes_blocks.specs.EachBlock.{each, refusal, output}

-- ---- the rows, as the code tests them

row : (a b : Bool) (n m : ℕ) → a ≡ b → cond a n m ≡ cond b n m
row a b n m e = ap (λ (t : Bool). cond t n m) e

differs : (a b : ℕ) → (a ≡ b → ⊥) → not (eqb a b) ≡ true
differs a b h = ap not (ne_eqb a b h)

agrees : (a b : ℕ) → a ≡ b → not (eqb a b) ≡ false
agrees a b h = ap not (eq-eqb a b h)

module _ (key text : List ℕ) (room : ℕ) where
  pub refuses_1 : not_key key ≡ true → refusal key text room ≡ 1
  unfolding refusal
  refuses_1 h = row _ true _ _ h

  module _ (k : not_key key ≡ false) where
    pub refuses_3 : (length text % 16 ≡ 0 → ⊥) → refusal key text room ≡ 3
    unfolding refusal
    refuses_3 h = row _ false _ _ k ∙ row _ true _ _ (differs _ _ h)

    module _ (t : length text % 16 ≡ 0) where
      pub refuses_5 : room < length text → refusal key text room ≡ 5
      unfolding refusal
      refuses_5 h = row _ false _ _ k ∙ row _ false _ _ (agrees _ _ t) ∙ row _ true _ _ (lt-ltb _ _ h)

      pub refuses-none : length text ≤ room → refusal key text room ≡ 0
      unfolding refusal
      refuses-none h = row _ false _ _ k ∙ row _ false _ _ (agrees _ _ t) ∙ row _ false _ _ (le-ltb _ _ h)

-- ---- nothing refused

pub record Passed (key text : List ℕ) (room : ℕ) : Type 0 where
  pub key-long : KeyLength key
  pub aligned : length text % 16 ≡ 0
  pub fits : length text ≤ room

passes : (a b c : Bool) → ◌≡◌ {A = ℕ} (cond a 1 (cond b 3 (cond c 5 0))) 0 → (a ≡ false) × (b ≡ false) × (c ≡ false)
passes true b c e = absurd (omega (arith, e))
passes false true c e = absurd (omega (arith, e))
passes false false true e = absurd (omega (arith, e))
passes false false false e = (refl, refl, refl)

pub passed : (key text : List ℕ) (room : ℕ) → refusal key text room ≡ 0 → Passed key text room
unfolding refusal
passed key text room e =
    let p = passes (not_key key) (not (eqb (length text % 16) 0)) (ltb room (length text)) e in
    record {
      key-long = has_key key p.0;
      aligned = eqb-true _ _ (not-false _ p.1);
      fits = ltb-false _ _ p.2;
    }

-- ---- the output

module _ (cipher : List ℕ → List ℕ → List ℕ) (key text : List ℕ) (room : ℕ) where
  abbrev bytes : List ℕ
  bytes = each (cipher key) text ++ zeros (room - length text)

  pub refused_output : (old : List ℕ) → old ≡ zeros room → (refusal key text room ≡ 0 → ⊥) → old ≡ output cipher key text room
  unfolding output
  refused_output old eo h = eo ∙ ap (λ (t : Bool). cond t bytes (zeros room)) (sym (ne_eqb (refusal key text room) 0 h))

  pub given_output : (key' old new : List ℕ) → key' ≡ key → old ≡ zeros room → refusal key text room ≡ 0
      → new ≡ each (cipher key') text ++ drop (length text / 16 * 16) old → new ≡ output cipher key text room
  unfolding output
  given_output key' old new ek eo z en =
      let m : length text / 16 * 16 ≡ length text = omega (arith, (passed key text room z).aligned) in
      en
      ∙ ap₂ (λ (k x : List ℕ). each (cipher k) text ++ x) ek
      (ap₂ (λ (n : ℕ) (x : List ℕ). drop n x) m eo ∙ drop-zeros (length text) room)
      ∙ ap (λ (t : Bool). cond t bytes (zeros room)) (sym (eq-eqb (refusal key text room) 0 z))

-- ---- what is answered

pub number-some : (refusal : Refusal) → number_of refusal ≡ 0 → ⊥
number-some BadKey e = omega arith
number-some TextLength e = omega arith
number-some OutputTooShort e = omega arith
