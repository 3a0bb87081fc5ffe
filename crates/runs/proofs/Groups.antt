-- What the functions on a group come to: a group done, and a run as groups one after another.
use mathlib.Core.Path.{◌≡◌, refl, sym, ap, ap₂, subst, ◌∙◌}
use mathlib.Core.Bool.{Bool, true, false, cond}
use mathlib.Core.List.{List, ◌++◌, append_assoc}
use Prim.Native.Nat.{ℕ, ◌+◌, ◌-◌, ◌*◌, ◌≤◌, ◌<◌}
use native.Mathlib.Omega.{arith}
use lib.ListN.{length, take, drop}
use lib.Seq.{take_at, drop_at, drop-drop}
use lib.Dec.{ltb}
use borrow.Author.Tests.{ltb-true, ltb-false}
use Rattle.blocks.specs.Bytes.{xor_bytes}
use Rattle.gf128.specs.Gf128.{jump}
use Rattle.gf128.proofs.TimesX.{jump-add}
use Rattle.groups.specs.Group.{block_at, block_of, in_turn, in_front}
use Rattle.groups.proofs.Front.{length-in_turn, length-block_at, turn_as, turn_add, block_behind}
use Rattle.mode.specs.Mode.{padded}
use Rattle.mode.proofs.Laws.{xor-long}
use Rattle.runs.specs.Task.{to_middle, from_middle, writes, middle_at, output_at}
use Rattle.runs.specs.Group.{Masked, Through, Stored, taken_up, Done}
use Rattle.runs.specs.declared.run.Task.{Task}
use Rattle.runs.proofs.Taken.{taken_as, taken_add}

-- ---- a group

module _ (task : Task) (n : ℕ) (key text mask p : List ℕ) (group masks next group' middle : List ℕ) (l : Masked n (block_of (padded text)) mask group masks next)
    (t : Through task n key group group' middle) where
  middle_is : (i : ℕ) → i < n → block_at middle i ≡ middle_at task key (padded text) mask i
  unfolding middle_at
  middle_is i h = t.middletexts.at i h ∙ ap (to_middle task key) (l.blocks.at i h)

  output_is : (i : ℕ) → i < n → xor_bytes (block_at group' i) (block_at masks i) ≡ output_at task key (padded text) mask i
  unfolding output_at middle_at
  output_is i h = ap₂ xor_bytes (t.blocks.at i h ∙ ap (λ (x : List ℕ). from_middle task key (to_middle task key x)) (l.blocks.at i h)) (l.kept.at i h)

  pub group_done : (at : ℕ) (old new p' : List ℕ) → Stored task n group' masks at old new → p' ≡ taken_up n (block_at middle) p
      → Done task n key (padded text) mask p at old new next p'
  unfolding Stored
  group_done at old new p' es ep =
      record {
        masked = l.after;
        authenticated = ep ∙ taken_as n (block_at middle) (middle_at task key (padded text) mask) p middle_is;
        written =
            es
            ∙ ap (λ (x : List ℕ). cond (writes task) (take at old ++ (x ++ drop (n * 16) (drop at old))) old)
            (turn_as n (λ i. xor_bytes (block_at group' i) (block_at masks i)) (output_at task key (padded text) mask) output_is);
        long = λ i h. ap length (sym (output_is i h)) ∙ xor-long (block_at group' i) (block_at masks i) (length-block_at group' i) (length-block_at masks i);
      }

-- ---- a run

pub none_done : (task : Task) (key text mask p old : List ℕ) → Done task 0 key text mask p 0 old old mask p
unfolding jump taken_up in_turn
none_done task key text mask p old =
    record { masked = refl; authenticated = refl; written = same (writes task); long = λ i h. absurd (omega (arith, h)) }
  where
    same : (w : Bool) → old ≡ cond w old old
    same true = refl
    same false = refl

-- n blocks, and m more behind them
module _ (task : Task) (n m : ℕ) (key text mask p old mid new mask₁ p₁ mask₂ p₂ : List ℕ) (a : Done task n key text mask p 0 old mid mask₁ p₁)
    (b : Done task m key (drop (n * 16) text) mask₁ p₁ (n * 16) mid new mask₂ p₂) where
  mask_on : (j : ℕ) → jump j mask₁ ≡ jump (n + j) mask
  mask_on j = ap (jump j) a.masked ∙ sym (jump-add j n mask) ∙ ap (λ (k : ℕ). jump k mask) (let e : j + n ≡ n + j = omega arith in e)

  middle_on : (j : ℕ) → middle_at task key (drop (n * 16) text) mask₁ j ≡ middle_at task key text mask (n + j)
  unfolding middle_at
  middle_on j = ap₂ (λ (x y : List ℕ). to_middle task key (xor_bytes x y)) (block_behind n j text) (mask_on j)

  output_on : (j : ℕ) → output_at task key (drop (n * 16) text) mask₁ j ≡ output_at task key text mask (n + j)
  unfolding output_at
  output_on j = ap₂ (λ (x y : List ℕ). xor_bytes (from_middle task key x) y) (middle_on j) (mask_on j)

  abbrev o : ℕ → List ℕ
  o = output_at task key text mask

  first-long : length (in_turn n o) ≡ n * 16
  first-long = length-in_turn 16 o n a.long

  written_on : (w : Bool) → mid ≡ cond w (in_turn n o ++ drop (n * 16) old) old
      → new ≡ cond w (take (n * 16) mid ++ in_front m (output_at task key (drop (n * 16) text) mask₁) (drop (n * 16) mid)) mid
      → new ≡ cond w (in_turn (n + m) o ++ drop ((n + m) * 16) old) old
  written_on false em en = en ∙ em
  written_on true em en =
      en
      ∙ ap₂ (λ (x y : List ℕ). x ++ (in_turn m (output_at task key (drop (n * 16) text) mask₁) ++ drop (m * 16) y))
      (ap (take (n * 16)) em ∙ take_at (in_turn n o) (drop (n * 16) old) (n * 16) first-long)
      (ap (drop (n * 16)) em ∙ drop_at (in_turn n o) (drop (n * 16) old) (n * 16) first-long)
      ∙ ap₂ (λ (x y : List ℕ). in_turn n o ++ (x ++ y)) (turn_as m (output_at task key (drop (n * 16) text) mask₁) (λ j. o (n + j)) (λ j l. output_on j))
      (drop-drop (m * 16) (n * 16) old ∙ ap (λ (k : ℕ). drop k old) (let e : n * 16 + m * 16 ≡ (n + m) * 16 = omega arith in e))
      ∙ sym (append_assoc (in_turn n o) (in_turn m (λ j. o (n + j))) (drop ((n + m) * 16) old))
      ∙ ap (λ (x : List ℕ). x ++ drop ((n + m) * 16) old) (sym (turn_add n m o))

  long_on : (i : ℕ) → i < n + m → (t : Bool) → ltb i n ≡ t → length (o i) ≡ 16
  long_on i h true e = a.long i (ltb-true i n e)
  long_on i h false e =
      let k : n ≤ i = ltb-false i n e in
      let s : n + (i - n) ≡ i = omega (arith, k) in
      ap (λ (j : ℕ). length (o j)) (sym s) ∙ ap length (sym (output_on (i - n))) ∙ b.long (i - n) (omega (arith, h, k))

  pub more_done : Done task (n + m) key text mask p 0 old new mask₂ p₂
  more_done =
      record {
        masked = b.masked ∙ mask_on m;
        authenticated =
            b.authenticated
            ∙ taken_as m (middle_at task key (drop (n * 16) text) mask₁) (λ j. middle_at task key text mask (n + j)) p₁ (λ j l. middle_on j)
            ∙ ap (taken_up m (λ j. middle_at task key text mask (n + j))) a.authenticated
            ∙ sym (taken_add n m (middle_at task key text mask) p);
        written = written_on (writes task) a.written b.written;
        long = λ i h. long_on i h (ltb i n) refl;
      }

-- the same blocks, said otherwise
pub done_as : (task : Task) (n n' : ℕ) (key text text' mask p : List ℕ) (at : ℕ) (old new mask' p' : List ℕ) → n ≡ n' → text ≡ text'
    → Done task n key text mask p at old new mask' p' → Done task n' key text' mask p at old new mask' p'
done_as task n n' key text text' mask p at old new mask' p' en et d =
    subst (λ (k : ℕ). Done task k key text' mask p at old new mask' p') en (subst (λ (t : List ℕ). Done task n key t mask p at old new mask' p') et d)
