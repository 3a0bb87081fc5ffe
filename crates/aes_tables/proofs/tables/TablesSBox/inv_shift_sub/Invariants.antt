-- The loop has looked up the first i bytes, where InvShiftRows brings them.
use mathlib.Core.Path.{◌≡◌}
use mathlib.Core.List.{List}
use Prim.Native.Nat.{ℕ, ◌≤◌, ◌+◌, ◌-◌, ◌*◌, ◌%◌}
use lib.ListN.{get_or}
use Rattle.blocks.proofs.Tab.{filled}
use Rattle.fips197.proofs.SboxTables.{inv_sbox_table}
use Rattle.aes_tables.proofs.tables.TablesSBox.inv_shift_sub.Given as goal

-- the byte that comes to index i
abbrev pub from : ℕ → ℕ
from i = (i + 16 - i % 4 * 4) % 16

abbrev pub looked : List ℕ → ℕ → ℕ
looked s i = get_or inv_sbox_table (get_or s (from i) 0) 0

abbrev pub invariant-loop-i : goal.invariant-loop-i
invariant-loop-i l = (l.i ≤ 16) × (l.r ≡ filled 16 (looked l.s) l.i)
