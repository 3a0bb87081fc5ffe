-- A loop that takes the blocks in front of a list through a step: those that it has done are as the step answers, and the others are as they were.
use mathlib.Core.Path.{◌≡◌, sym, ap, ◌∙◌}
use mathlib.Core.List.{List, ◌++◌}
use Prim.Native.Nat.{ℕ, ◌+◌, ◌*◌, ◌≤◌, ◌<◌}
use native.Mathlib.Omega.{arith}
use borrow.Author.Count.{below_more}
use lib.ListN.{length, take, drop}
use Rattle.groups.specs.Group.{block_of, in_front}
use Rattle.groups.proofs.Front.{Front, front_begins, front_rest, front_turn, front_ends, front-blocks}
use Rattle.aes_steps.specs.Each.{EachBlock}

-- after i blocks, whatever function of the block the step answers
pub record Done (f : List ℕ → List ℕ) (i : ℕ) (old now : List ℕ) : Type 0 where
  pub front : Front 16 (λ j. f (block_of old j)) i old now
  pub long : (j : ℕ) → j < i → length (f (block_of old j)) ≡ 16

abbrev pub Stepped : (List ℕ → List ℕ → Type 0) → ℕ → List ℕ → List ℕ → Type 0
Stepped step i old now = (f : List ℕ → List ℕ) → ((b r : List ℕ) → step b r → r ≡ f b) → Done f i old now

module _ (step : List ℕ → List ℕ → Type 0) where
  pub stepped_none : (old : List ℕ) → Stepped step 0 old old
  stepped_none old = λ f is. record { front = front_begins 16 (λ j. f (block_of old j)) old; long = λ j h. absurd (omega (arith, h)) }

  pub stepped_more : (i : ℕ) (old now new b r : List ℕ) → Stepped step i old now → b ≡ block_of now i → step b r → length r ≡ 16
      → new ≡ take (i * 16) now ++ r ++ drop (i * 16 + 16) now → Stepped step (i + 1) old new
  unfolding block_of
  stepped_more i old now new b r s eb p l en =
      λ f is.
      let d : Done f i old now = s f is in
      let e : r ≡ f (take 16 (drop (i * 16) old)) =
      is b r p ∙ ap f (eb ∙ ap (take 16) (front_rest 16 (λ j. f (block_of old j)) i old now d.long d.front)) in
      record {
        front = front_turn 16 (λ j. f (block_of old j)) i old now d.long d.front r new e en;
        long = below_more (λ j. length (f (block_of old j)) ≡ 16) i d.long (sym (ap length e) ∙ l);
      }

  pub stepped_all : (i n : ℕ) (old new : List ℕ) → i ≤ n → n ≤ i → Stepped step i old new → EachBlock step n old new
  stepped_all i n old new h l s = λ f is. front_ends 16 _ i n old new h l (s f is).front

-- the blocks of a text, as b says, after a function of each
pub stepped_blocks : (f : List ℕ → List ℕ) (n : ℕ) (b : ℕ → List ℕ) (old new : List ℕ) → ((i : ℕ) → length (f (b i)) ≡ 16) → ((i : ℕ) → i < n → block_of old i ≡ b i)
    → new ≡ in_front n (λ i. f (block_of old i)) old → (i : ℕ) → i < n → block_of new i ≡ f (b i)
stepped_blocks f n b old new long eb is i h =
    front-blocks n (λ i. f (block_of old i)) old new (λ j l. ap (λ (s : List ℕ). length (f s)) (eb j l) ∙ long j) is i h ∙ ap f (eb i h)
