-- The tables that the code reads have the S-box and its inverse at every byte.
use mathlib.Core.Path.{◌≡◌, sym, ◌∙◌}
use mathlib.Core.List.{List}
use Prim.Native.Nat.{ℕ, ◌<◌}
use lib.ListN.{get_or}
use Rattle.blocks.specs.Bytes.{Block}
use Rattle.blocks.specs.Tab.{tab}
use Rattle.blocks.proofs.Tab.{get_or-tab, tab_ext}
use Rattle.fips197.specs.Sbox.{sbox, inv_sbox}
use Rattle.fips197.proofs.SboxTables.{sbox_table, inv_sbox_table, sbox_at, inv_sbox_at}
use Rattle.aes_tables.specs.Table.{Tabulates}

pub sbox-table : Tabulates sbox_table sbox
sbox-table = record { at = sbox_at }

pub inv_sbox-table : Tabulates inv_sbox_table inv_sbox
inv_sbox-table = record { at = inv_sbox_at }

-- a table read at bytes that are moved: the byte that comes to index i, after the function at each byte
pub looked_up : (table s : List ℕ) (f : ℕ → ℕ) (from : ℕ → ℕ) → Tabulates table f → Block s → ((i : ℕ) → i < 16 → from i < 16)
    → tab 16 (λ i. get_or table (get_or s (from i) 0) 0) ≡ tab 16 (λ i. get_or (tab 16 (λ i. f (get_or s i 0))) (from i) 0)
looked_up table s f from t b h =
    tab_ext 16 (λ i. get_or table (get_or s (from i) 0) 0) (λ i. get_or (tab 16 (λ i. f (get_or s i 0))) (from i) 0)
    (λ i l. t.at (get_or s (from i) 0) (b.bytes (from i)) ∙ sym (get_or-tab 16 (from i) (λ i. f (get_or s i 0)) (h i l)))
