-- By the key's words, and whether the word's number is a multiple of theirs.
use borrow.Author.Tests.{eq-eqb, ne_eqb}
use mathlib.Core.Path.{◌≡◌, sym, ap, ◌∙◌}
use mathlib.Core.Bool.{Bool, cond}
use mathlib.Core.Logic.{◌⊎◌, inl, inr}
use mathlib.Core.List.{List}
use Prim.Native.Nat.{ℕ, ◌/◌, ◌%◌}
use native.Mathlib.Omega.{arith}
use lib.Dec.{eqb}
use Rattle.blocks.specs.Bytes.{xor_bytes}
use Rattle.fips197.specs.KeyExpansion.{rot_word, rcon}
use Rattle.aes_steps.specs.Words.{KeyWords}
use Rattle.aes_steps.proofs.schedule.after_sub.Goals as goal

abbrev becomes : ℕ → ℕ → List ℕ → List ℕ
becomes i nk s = cond (eqb (i % nk) 0) (xor_bytes (rot_word s) (rcon (i / nk))) s

turns : (i nk k : ℕ) (s : List ℕ) → nk ≡ k → i % k ≡ 0 → xor_bytes (rot_word s) (rcon (i / k)) ≡ becomes i nk s
turns i nk k s e z =
    ap (λ (b : Bool). cond b (xor_bytes (rot_word s) (rcon (i / k))) s) (sym (eq-eqb (i % k) 0 z)) ∙ ap (λ (n : ℕ). becomes i n s) (sym e)

keeps : (i nk : ℕ) (s : List ℕ) → nk ≡ 8 → (i % 8 ≡ 0 → ⊥) → s ≡ becomes i nk s
keeps i nk s e z =
    ap (λ (b : Bool). cond b (xor_bytes (rot_word s) (rcon (i / 8))) s) (sym (ne_eqb (i % 8) 0 z)) ∙ ap (λ (n : ℕ). becomes i n s) (sym e)

-- a key that has not four words has eight
eight : (nk i : ℕ) → KeyWords nk i → (nk ≡ 4 → ⊥) → nk ≡ 8
eight nk i h n = by h.words
  where
    by : (nk ≡ 4) ⊎ (nk ≡ 8) → nk ≡ 8
    by (inl e) = absurd (n e)
    by (inr e) = e

pub returns-then-nk-eq4 : goal.returns-then-nk-eq4
returns-then-nk-eq4 c =
    let e : c.args.nk ≡ 4 = c.if-nk-eq4.true in
    c.turned.ensures ∙ turns c.args.i c.args.nk 4 c.args.subbed e c.requires.i_value

pub turned-requires-then-i-eq0 : goal.turned-requires-then-i-eq0
turned-requires-then-i-eq0 c =
    let e = eight c.args.nk c.args.i c.requires.key_words c.if-nk-eq4.false in
    record {
      le_round = omega (arith, c.requires.key_words.least);
      round_bound = omega (arith, c.requires.key_words.most);
    }

pub returns-then-i-eq0 : goal.returns-then-i-eq0
returns-then-i-eq0 c =
    let e = eight c.args.nk c.args.i c.requires.key_words c.if-nk-eq4.false in
    c.turned-then-i-eq0.ensures ∙ turns c.args.i c.args.nk 8 c.args.subbed e c.if-i-eq0.true

pub returns : goal.returns
returns c = keeps c.args.i c.args.nk c.args.subbed (eight c.args.nk c.args.i c.requires.key_words c.if-nk-eq4.false) c.if-i-eq0.false
