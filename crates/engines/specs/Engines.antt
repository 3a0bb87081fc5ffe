-- Ticket P5: for every key and block the engines are equal, in both halves, in the key schedule and in reverse. An engine is known above the
-- face by its contracts alone, and `cipher::by` has them for every engine. So the statement is that they leave one answer: whatever
-- two engines give of the same key and the same blocks is the same. Of a single block each contract says so in words, by an equation.
use Rattle.std.specs.Prelude.{◌≡◌, List, ℕ, ◌<◌}
use Rattle.groups.specs.Group.{block_at}
use Rattle.cipher.specs.Keys.{Expands}
use Rattle.cipher.specs.Group.{Enciphered, Deciphered, Middletexts}

-- the first n blocks of two groups are the same
pub record Agree (n : ℕ) (one other : List ℕ) : Type 0 where
  pub at : (i : ℕ) → i < n → block_at one i ≡ block_at other i

pub record EnginesEqual : Type 0 where
  pub schedules : (key one other : List ℕ) → Expands key one → Expands key other → one ≡ other
  -- the first half, and both halves
  pub forwards : (n : ℕ) (key old old' new new' middle middle' : List ℕ) → Agree n old old' → Enciphered n key old new middle
      → Enciphered n key old' new' middle' → Agree n middle middle' × Agree n new new'
  -- the second half undone, and both halves undone
  pub backwards : (n : ℕ) (key old old' new new' middle middle' : List ℕ) → Agree n old old' → Deciphered n key old new middle
      → Deciphered n key old' new' middle' → Agree n middle middle' × Agree n new new'
  -- the second half undone alone
  pub middletexts : (n : ℕ) (key old old' new new' : List ℕ) → Agree n old old' → Middletexts n key old new → Middletexts n key old' new' → Agree n new new'
