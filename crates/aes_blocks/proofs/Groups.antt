-- A loop that puts groups of blocks into an output, one group after another.
use mathlib.Core.Path.{◌≡◌, sym, ap, ap₂, ◌∙◌}
use mathlib.Core.List.{List, ◌++◌, append_assoc}
use Prim.Native.Nat.{ℕ, ◌+◌, ◌-◌, ◌*◌, ◌<◌}
use native.Mathlib.Omega.{arith}
use lib.ListN.{length, take, drop}
use lib.Seq.{take_at, drop-drop}
use Rattle.blocks.proofs.Parts.{back_is, back_put}
use Rattle.groups.specs.Group.{block_at, block_of, Holds, in_turn, in_front}
use Rattle.groups.proofs.Front.{Front, front_rest, length-in_turn, turn_as, turn_add, block_behind}

-- ---- one group, of n blocks: loaded, through f, stored

pub group_stored : (n : ℕ) (f : List ℕ → List ℕ) (text loaded through old new : List ℕ) → Holds n (block_of text) loaded
    → Holds n (λ i. f (block_at loaded i)) through → new ≡ in_front n (block_at through) old → new ≡ in_front n (λ i. f (block_of text i)) old
group_stored n f text loaded through old new l t en =
    en ∙ ap (λ (x : List ℕ). x ++ drop (n * 16) old) (turn_as n _ _ (λ i h. t.at i h ∙ ap f (l.at i h)))

-- ---- one more group

module _ (f : List ℕ → List ℕ) (text : List ℕ) (i n : ℕ) where
  abbrev b : ℕ → List ℕ
  b j = f (block_of text j)

  -- what is lent of a list
  abbrev lent : List ℕ → List ℕ
  lent a = take (length a - i * 16) (drop (i * 16) a)

  group_rest : (now y : List ℕ) → y ≡ in_front n (λ j. f (block_of (lent text) j)) (lent now)
      → y ≡ in_front n (λ j. b (i + j)) (drop (i * 16) now)
  group_rest now y ey =
      ey
      ∙ ap₂ (λ (t o : List ℕ). in_front n (λ j. f (block_of t j)) o) (back_is (i * 16) text) (back_is (i * 16) now)
      ∙ ap (λ (x : List ℕ). x ++ drop (n * 16) (drop (i * 16) now)) (turn_as n _ _ (λ j l. ap f (block_behind i j text)))

  pub group_turn : (old now y new : List ℕ) → ((j : ℕ) → j < i → length (b j) ≡ 16) → Front 16 b i old now
      → y ≡ in_front n (λ j. f (block_of (lent text) j)) (lent now)
      → new ≡ take (i * 16) now ++ (y ++ drop (length now - i * 16) (drop (i * 16) now)) → Front 16 b (i + n) old new
  group_turn old now y new parts is ey en =
      en ∙ back_put (i * 16) now y ∙ ap (λ (x : List ℕ). take (i * 16) now ++ x) (group_rest now y ey)
      ∙ ap₂ (λ (p q : List ℕ). p ++ in_front n (λ j. b (i + j)) q)
      (ap (take (i * 16)) is ∙ take_at (in_turn i b) (drop (i * 16) old) (i * 16) (length-in_turn 16 b i parts)) (front_rest 16 b i old now parts is)
      ∙ sym (append_assoc (in_turn i b) (in_turn n (λ j. b (i + j))) (drop (n * 16) (drop (i * 16) old)))
      ∙ ap₂ (λ (p q : List ℕ). p ++ q) (sym (turn_add i n b))
      (drop-drop (n * 16) (i * 16) old ∙ ap (λ (k : ℕ). drop k old) (let e : i * 16 + n * 16 ≡ (i + n) * 16 = omega arith in e))
