-- A group of blocks on its way through a run.
use Rattle.std.specs.Prelude.{◌≡◌, cond, List, ◌++◌, ℕ, zero, suc, ◌<◌, length, take, drop}
use Rattle.blocks.specs.Bytes.{xor_bytes}
use Rattle.gf128.specs.Gf128.{times_x, jump}
use Rattle.groups.specs.Group.{block_at, Holds, in_front}
use Rattle.runs.specs.Task.{to_middle, from_middle, writes, middle_at, output_at}
use Rattle.runs.specs.declared.run.Task.{Task}

-- n blocks, each plus its mask, from this mask on; the masks; and the one after them
pub record Masked (n : ℕ) (b : ℕ → List ℕ) (mask group masks next : List ℕ) : Type 0 where
  pub blocks : Holds n (λ i. xor_bytes (b i) (jump i mask)) group
  pub kept : Holds n (λ i. jump i mask) masks
  pub after : next ≡ jump n mask

-- n blocks through the cipher
pub record Through (task : Task) (n : ℕ) (key old new middle : List ℕ) : Type 0 where
  pub middletexts : Holds n (λ i. to_middle task key (block_at old i)) middle
  pub blocks : Holds n (λ i. from_middle task key (to_middle task key (block_at old i))) new

-- n blocks with their masks added in an output from the offset `at` on, where the task writes
unfoldable pub Stored : Task → ℕ → List ℕ → List ℕ → ℕ → List ℕ → List ℕ → Type 0
Stored task n group masks at old new =
    new ≡ cond (writes task) (take at old ++ in_front n (λ i. xor_bytes (block_at group i) (block_at masks i)) (drop at old)) old

-- Step 2: the pre-authenticator is multiplied by the variable and the middletext added, n times
unfoldable pub taken_up : ℕ → (ℕ → List ℕ) → List ℕ → List ℕ
taken_up zero middle p = p
taken_up (suc n) middle p = xor_bytes (times_x (taken_up n middle p)) (middle n)

-- n blocks of a text done, from a mask and a pre-authenticator: what they come to, and an output from the offset `at` on, which held `old`
-- and now holds `new`
pub record Done (task : Task) (n : ℕ) (key text mask p : List ℕ) (at : ℕ) (old new mask' p' : List ℕ) : Type 0 where
  pub masked : mask' ≡ jump n mask
  pub authenticated : p' ≡ taken_up n (middle_at task key text mask) p
  pub written : new ≡ cond (writes task) (take at old ++ in_front n (output_at task key text mask) (drop at old)) old
  pub long : (i : ℕ) → i < n → length (output_at task key text mask i) ≡ 16
