-- Step 2 over blocks one after another, by any two functions on blocks: sealing, opening and checking are such walks. By the number of a
-- block: its mask is the first one jumped by its number.
use mathlib.Core.Path.{◌≡◌, refl, sym, ap, ap₂, ◌∙◌}
use mathlib.Core.List.{List, [], ◌∷◌, ◌++◌}
use Prim.Native.Nat.{ℕ, zero, suc, ◌+◌, ◌*◌, ◌<◌}
use native.Mathlib.Omega.{arith}
use lib.ListN.{length, drop}
use Rattle.blocks.specs.Bytes.{xor_bytes, first_blocks}
use Rattle.gf128.specs.Gf128.{times_x, jump}
use Rattle.gf128.proofs.TimesX.{jump-add}
use Rattle.groups.specs.Group.{block_of, in_turn}
use Rattle.groups.proofs.Front.{length-in_turn, turn_as, turn_first, block_behind}
use Rattle.mode.specs.Mode.{Pass, plaintext, ciphertext, middletext, written, pass}
use Rattle.mode.specs.Aes.{aes}
use Rattle.mode.specs.Calls.{decrypted}
use Rattle.fips197.specs.Aes.{first_half, second_half, inv_first_half, inv_second_half}
use Rattle.runs.specs.Task.{to_middle, from_middle, writes, wrote, middle_at, output_at}
use Rattle.runs.specs.Group.{taken_up, Done}
use Rattle.runs.specs.Run.{ran, Ran}
use Rattle.runs.specs.declared.run.Task.{Task}
use Rattle.runs.specs.declared.run.Task.TheVariants.{Seal, Open, Check}
use Rattle.runs.proofs.Taken.{taken_as, taken_first}

-- each block goes through f to the middletext, and through g on
unfoldable walk : (List ℕ → List ℕ) → (List ℕ → List ℕ) → List (List ℕ) → List ℕ → List ℕ → Pass
walk f g [] mask p = record { output = []; preauthenticator = p; mask = mask }
walk f g (b ∷ bs) mask p =
    let rest = walk f g bs (times_x mask) (xor_bytes (times_x p) (f (xor_bytes b mask))) in
    record { output = xor_bytes (g (f (xor_bytes b mask))) mask ++ rest.output; preauthenticator = rest.preauthenticator; mask = rest.mask }

-- ---- by the number of a block

module _ (f g : List ℕ → List ℕ) where
  abbrev middle : List ℕ → List ℕ → ℕ → List ℕ
  middle text mask i = f (xor_bytes (block_of text i) (jump i mask))

  abbrev output : List ℕ → List ℕ → ℕ → List ℕ
  output text mask i = xor_bytes (g (middle text mask i)) (jump i mask)

  -- the next block of a text is the first of what is behind it, under the next mask
  next_mask : (mask : List ℕ) (i : ℕ) → jump i (times_x mask) ≡ jump (suc i) mask
  unfolding jump
  next_mask mask i = sym (jump-add i 1 mask) ∙ ap (λ (k : ℕ). jump k mask) (let e : i + 1 ≡ suc i = omega arith in e)

  next_middle : (text mask : List ℕ) (i : ℕ) → middle (drop 16 text) (times_x mask) i ≡ middle text mask (suc i)
  next_middle text mask i =
      ap₂ (λ (b m : List ℕ). f (xor_bytes b m)) (block_behind 1 i text ∙ ap (block_of text) (let e : 1 + i ≡ suc i = omega arith in e)) (next_mask mask i)

  walk_mask : (n : ℕ) (text mask p : List ℕ) → (walk f g (first_blocks n text) mask p).mask ≡ jump n mask
  unfolding walk first_blocks jump
  walk_mask zero text mask p = refl
  walk_mask (suc n) text mask p = walk_mask n (drop 16 text) (times_x mask) _ ∙ next_mask mask n

  walk_taken : (n : ℕ) (text mask p : List ℕ) → (walk f g (first_blocks n text) mask p).preauthenticator ≡ taken_up n (middle text mask) p
  unfolding walk first_blocks jump block_of taken_up
  walk_taken zero text mask p = refl
  walk_taken (suc n) text mask p =
      walk_taken n (drop 16 text) (times_x mask) _
      ∙ taken_as n (middle (drop 16 text) (times_x mask)) (λ i. middle text mask (suc i)) _ (λ i l. next_middle text mask i)
      ∙ taken_first n (middle text mask) p

  walk_output : (n : ℕ) (text mask p : List ℕ) → (walk f g (first_blocks n text) mask p).output ≡ in_turn n (output text mask)
  unfolding walk first_blocks jump block_of in_turn
  walk_output zero text mask p = refl
  walk_output (suc n) text mask p =
      ap (λ (x : List ℕ). output text mask 0 ++ x)
      (walk_output n (drop 16 text) (times_x mask) _
      ∙ turn_as n (output (drop 16 text) (times_x mask)) (λ i. output text mask (suc i)) (λ i l. ap₂ (λ (x m : List ℕ). xor_bytes (g x) m) (next_middle text mask i) (next_mask mask i)))
      ∙ turn_first n (output text mask)

-- ---- sealing, opening and checking

module _ (key : List ℕ) where
  seal_walk : (bs : List (List ℕ)) (mask p : List ℕ) → walk (first_half key) (second_half key) bs mask p ≡ pass aes plaintext key bs mask p
  unfolding walk pass middletext written
  seal_walk [] mask p = refl
  seal_walk (b ∷ bs) mask p =
      ap (λ (q : Pass). record {
        output = xor_bytes (second_half key (first_half key (xor_bytes b mask))) mask ++ q.output;
        preauthenticator = q.preauthenticator;
        mask = q.mask;
      }) (seal_walk bs (times_x mask) (xor_bytes (times_x p) (first_half key (xor_bytes b mask))))

  open_output : (bs : List (List ℕ)) (mask p : List ℕ) → (walk (inv_second_half key) (inv_first_half key) bs mask p).output ≡ decrypted aes key bs mask
  unfolding walk decrypted middletext
  open_output [] mask p = refl
  open_output (b ∷ bs) mask p =
      ap (λ (r : List ℕ). xor_bytes (inv_first_half key (inv_second_half key (xor_bytes b mask))) mask ++ r)
      (open_output bs (times_x mask) (xor_bytes (times_x p) (inv_second_half key (xor_bytes b mask))))

  module _ (g : List ℕ → List ℕ) where
    check_mask : (bs : List (List ℕ)) (mask p : List ℕ) → (walk (inv_second_half key) g bs mask p).mask ≡ (pass aes ciphertext key bs mask p).mask
    unfolding walk pass middletext
    check_mask [] mask p = refl
    check_mask (b ∷ bs) mask p = check_mask bs (times_x mask) (xor_bytes (times_x p) (inv_second_half key (xor_bytes b mask)))

    check_preauthenticator : (bs : List (List ℕ)) (mask p : List ℕ)
        → (walk (inv_second_half key) g bs mask p).preauthenticator ≡ (pass aes ciphertext key bs mask p).preauthenticator
    unfolding walk pass middletext
    check_preauthenticator [] mask p = refl
    check_preauthenticator (b ∷ bs) mask p = check_preauthenticator bs (times_x mask) (xor_bytes (times_x p) (inv_second_half key (xor_bytes b mask)))

  check_output : (bs : List (List ℕ)) (mask p : List ℕ) → (pass aes ciphertext key bs mask p).output ≡ []
  unfolding pass written
  check_output [] mask p = refl
  check_output (b ∷ bs) mask p = check_output bs (times_x mask) _

-- ---- blocks done are a run over them

-- written to the front, with its length
output-long : (n : ℕ) (b : ℕ → List ℕ) (output : List ℕ) → output ≡ in_turn n b → ((i : ℕ) → i < n → length (b i) ≡ 16) → length output ≡ n * 16
output-long n b output e long = ap length e ∙ length-in_turn 16 b n long

in_front_lem : (n : ℕ) (b : ℕ → List ℕ) (output old new : List ℕ) → output ≡ in_turn n b → new ≡ in_turn n b ++ drop (n * 16) old → new ≡ output ++ drop (n * 16) old
in_front_lem n b output old new e is = is ∙ ap (λ (x : List ℕ). x ++ drop (n * 16) old) (sym e)

pub done-ran : (task : Task) (n : ℕ) (key text mask p old new mask' p' : List ℕ) → Done task n key text mask p 0 old new mask' p'
    → Ran (wrote task n) (ran task key (first_blocks n text) mask p) old new mask' p'
unfolding ran to_middle from_middle writes wrote middle_at output_at
done-ran Seal n key text mask p old new mask' p' d =
    let w = seal_walk key (first_blocks n text) mask p in
    let o = ap (λ (q : Pass). q.output) (sym w) ∙ walk_output (first_half key) (second_half key) n text mask p in
    record {
      long = output-long n (output_at Seal key text mask) _ o d.long;
      written = in_front_lem n (output_at Seal key text mask) _ old new o d.written;
      masked = d.masked ∙ sym (walk_mask (first_half key) (second_half key) n text mask p) ∙ ap (λ (q : Pass). q.mask) w;
      authenticated = d.authenticated ∙ sym (walk_taken (first_half key) (second_half key) n text mask p) ∙ ap (λ (q : Pass). q.preauthenticator) w;
    }
done-ran Open n key text mask p old new mask' p' d =
    let o = sym (open_output key (first_blocks n text) mask p) ∙ walk_output (inv_second_half key) (inv_first_half key) n text mask p in
    record {
      long = output-long n (output_at Open key text mask) _ o d.long;
      written = in_front_lem n (output_at Open key text mask) _ old new o d.written;
      masked = d.masked ∙ sym (walk_mask (inv_second_half key) (inv_first_half key) n text mask p) ∙ check_mask key (inv_first_half key) (first_blocks n text) mask p;
      authenticated = d.authenticated ∙ sym (walk_taken (inv_second_half key) (inv_first_half key) n text mask p) ∙ check_preauthenticator key (inv_first_half key) (first_blocks n text) mask p;
    }
done-ran Check n key text mask p old new mask' p' d =
    record {
      long = ap length (check_output key (first_blocks n text) mask p);
      written = d.written ∙ ap (λ (x : List ℕ). x ++ old) (sym (check_output key (first_blocks n text) mask p));
      masked = d.masked ∙ sym (walk_mask (inv_second_half key) (λ x. x) n text mask p) ∙ check_mask key (λ x. x) (first_blocks n text) mask p;
      authenticated = d.authenticated ∙ sym (walk_taken (inv_second_half key) (λ x. x) n text mask p) ∙ check_preauthenticator key (λ x. x) (first_blocks n text) mask p;
    }
