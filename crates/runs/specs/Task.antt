-- Sealing, opening and checking do the same with each block, but for the halves that it goes through and for what is stored.
use Rattle.std.specs.Prelude.{Bool, true, false, List, ℕ, ◌*◌}
use Rattle.blocks.specs.Bytes.{xor_bytes}
use Rattle.gf128.specs.Gf128.{jump}
use Rattle.groups.specs.Group.{block_of}
use Rattle.fips197.specs.Aes.{first_half, second_half, inv_first_half, inv_second_half}
use Rattle.runs.specs.declared.run.Task.{Task}
use Rattle.runs.specs.declared.run.Task.TheVariants.{Seal, Open, Check}

-- from a masked block to its middletext, and from there on
unfoldable pub to_middle : Task → List ℕ → List ℕ → List ℕ
to_middle Seal = first_half
to_middle Open = inv_second_half
to_middle Check = inv_second_half

unfoldable pub from_middle : Task → List ℕ → List ℕ → List ℕ
from_middle Seal key m = second_half key m
from_middle Open key m = inv_first_half key m
from_middle Check key m = m

-- whether it is stored
unfoldable pub writes : Task → Bool
writes Seal = true
writes Open = true
writes Check = false

-- how many bytes, of n blocks
unfoldable pub wrote : Task → ℕ → ℕ
wrote Seal n = n * 16
wrote Open n = n * 16
wrote Check n = 0

module _ (task : Task) (key text mask : List ℕ) where
  -- the middletext of block i of a text, where this is the mask of block 0
  unfoldable pub middle_at : ℕ → List ℕ
  middle_at i = to_middle task key (xor_bytes (block_of text i) (jump i mask))

  -- what is stored for it
  unfoldable pub output_at : ℕ → List ℕ
  output_at i = xor_bytes (from_middle task key (middle_at i)) (jump i mask)
