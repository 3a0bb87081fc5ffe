use borrow.Author.Rules.{rules}
use mathlib.Core.Path.{refl, ◌∙◌}
use native.Mathlib.Omega.{arith}
use Rattle.blocks.proofs.Array.{block-by}
use Rattle.blocks.proofs.Tab.{fill_none, fill_more, fill_all}
use Rattle.fips197.specs.Sbox.{sbox as sbox_of}
use Rattle.fips197.specs.State.{sub_bytes, shift_rows}
use Rattle.aes_tables.proofs.Lookup.{sbox-table, looked_up}
use Rattle.aes_tables.proofs.tables.TablesSBox.sub_shift.Invariants.{from, looked}
use Rattle.aes_tables.proofs.tables.TablesSBox.sub_shift.Goals as goal

pub loop-i-init : goal.loop-i-init
loop-i-init c = (search rules, fill_none 16 _)

pub loop-i-preserved : goal.loop-i-preserved
loop-i-preserved c =
    let a = c.args in
    (search rules, fill_more 16 (looked a.s) c.loop-i.i (search rules) c.loop-i.invariant.1 refl)

pub returns : goal.returns
unfolding sub_bytes shift_rows
returns c =
    let a = c.args in
    fill_all 16 (looked a.s) c.loop-i.i (search rules) (search rules) c.loop-i.invariant.1
    ∙ looked_up _ a.s sbox_of from sbox-table (block-by a.s (search rules) (λ i. search rules)) (λ i h. omega arith)
