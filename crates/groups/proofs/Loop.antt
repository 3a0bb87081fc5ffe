-- A loop over the blocks of a group: those that it has done are as it sets them, and the others are as they were.
use mathlib.Core.Path.{◌≡◌, refl, sym, ap, ◌∙◌}
use mathlib.Core.List.{List}
use Prim.Native.Nat.{ℕ, ◌+◌, ◌*◌, ◌≤◌, ◌<◌}
use native.Mathlib.Omega.{arith}
use lib.ListN.{length, set, length-set}
use lib.Seq.{get_or-set_same, get_or-set_other}
use lib.Dec.{eqb}
use borrow.Author.Tests.{eqb-true, eqb-false}
use mathlib.Core.Bool.{Bool, true, false}
use Rattle.blocks.specs.Words.{bytes_of}
use Rattle.blocks.specs.declared.words.Words.{Words}
use Rattle.groups.specs.Group.{block_at, Holds, Put}

-- ---- one block set

words_of_lem : (h h' l l' : ℕ) → h ≡ h' → l ≡ l' → bytes_of (record { high = h; low = l }) ≡ bytes_of (record { high = h'; low = l' })
words_of_lem h h' l l' eh el = λ i. bytes_of (record { high = eh i; low = el i })

pub put_words : (g : List ℕ) (i : ℕ) (w : Words) → length g ≡ 64 → i < 32 → Put i (bytes_of w) g (set (set g (i * 2) w.high) (i * 2 + 1) w.low)
unfolding block_at
put_words g i w long h =
    record {
      long = length-set first (i * 2 + 1) w.low ∙ first-long;
      there =
          words_of_lem _ _ _ _ (get_or-set_other first (i * 2 + 1) (i * 2) w.low 0 (λ e. omega (arith, e)) ∙ get_or-set_same g (i * 2) w.high 0 (omega (arith, long)))
          (get_or-set_same first (i * 2 + 1) w.low 0 (omega (arith, first-long)));
      others =
          λ j d. words_of_lem _ _ _ _
          (get_or-set_other first (i * 2 + 1) (j * 2) w.low 0 (λ e. omega (arith, e)) ∙ get_or-set_other g (i * 2) (j * 2) w.high 0 (λ e. d (omega (arith, e))))
          (get_or-set_other first (i * 2 + 1) (j * 2 + 1) w.low 0 (λ e. d (omega (arith, e))) ∙ get_or-set_other g (i * 2) (j * 2 + 1) w.high 0 (λ e. omega (arith, e)));
    }
  where
    first : List ℕ
    first = set g (i * 2) w.high

    first-long : length first ≡ 64
    first-long = length-set g (i * 2) w.high ∙ long

-- ---- the loop

pub record During (i : ℕ) (b : ℕ → List ℕ) (old new : List ℕ) : Type 0 where
  pub done : Holds i b new
  pub rest : (j : ℕ) → i ≤ j → block_at new j ≡ block_at old j

pub begins : (b : ℕ → List ℕ) (old : List ℕ) → length old ≡ 64 → During 0 b old old
begins b old long = record { done = record { long = long; at = λ i h. absurd (omega (arith, h)) }; rest = λ j h. refl }

pub turn : (b : ℕ → List ℕ) (i : ℕ) (old now new y : List ℕ) → During i b old now → Put i y now new → y ≡ b i → During (i + 1) b old new
turn b i old now new y d p e =
    record {
      done = record { long = p.long; at = λ j h. each j h (eqb j i) refl };
      rest = λ j h. p.others j (λ q. omega (arith, h, q)) ∙ d.rest j (omega (arith, h));
    }
  where
    each : (j : ℕ) → j < i + 1 → (t : Bool) → eqb j i ≡ t → block_at new j ≡ b j
    each j h true q = let s : j ≡ i = eqb-true j i q in ap (block_at new) s ∙ p.there ∙ e ∙ ap b (sym s)
    each j h false q =
        let s : j ≡ i → ⊥ = eqb-false j i q in
        p.others j s ∙ d.done.at j (omega (arith, h, s))

pub ends : (b : ℕ → List ℕ) (i n : ℕ) (old new : List ℕ) → During i b old new → n ≤ i → Holds n b new
ends b i n old new d h = record { long = d.done.long; at = λ j l. d.done.at j (omega (arith, l)) }

-- ---- the same blocks, said otherwise

pub holds_as : (n : ℕ) (b b' : ℕ → List ℕ) (g : List ℕ) → Holds n b g → ((i : ℕ) → i < n → b i ≡ b' i) → Holds n b' g
holds_as n b b' g h e = record { long = h.long; at = λ i l. h.at i l ∙ e i l }
