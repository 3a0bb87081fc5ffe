use borrow.Author.Rules.{rules}
use mathlib.Core.Path.{refl, ◌∙◌}
use native.Mathlib.Omega.{arith}
use Rattle.blocks.proofs.Array.{block-by}
use Rattle.blocks.proofs.Tab.{fill_none, fill_more, fill_all}
use Rattle.fips197.specs.Sbox.{inv_sbox}
use Rattle.fips197.specs.State.{inv_sub_bytes, inv_shift_rows}
use Rattle.aes_tables.proofs.Lookup.{inv_sbox-table, looked_up}
use Rattle.aes_tables.proofs.tables.TablesSBox.inv_shift_sub.Invariants.{from, looked}
use Rattle.aes_tables.proofs.tables.TablesSBox.inv_shift_sub.Goals as goal

pub loop-i-init : goal.loop-i-init
loop-i-init c = (search rules, fill_none 16 _)

pub loop-i-preserved : goal.loop-i-preserved
loop-i-preserved c =
    let a = c.args in
    (search rules, fill_more 16 (looked a.s) c.loop-i.i (search rules) c.loop-i.invariant.1 refl)

pub returns : goal.returns
unfolding inv_sub_bytes inv_shift_rows
returns c =
    let a = c.args in
    fill_all 16 (looked a.s) c.loop-i.i (search rules) (search rules) c.loop-i.invariant.1
    ∙ looked_up _ a.s inv_sbox from inv_sbox-table (block-by a.s (search rules) (λ i. search rules)) (λ i h. omega arith)
