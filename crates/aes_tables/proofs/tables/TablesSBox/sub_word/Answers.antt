-- Four bytes, each looked up.
use borrow.Author.Rules.{rules}
use mathlib.Core.List.{[], ◌∷◌}
use lib.ListN.{get_or}
use Rattle.fips197.specs.KeyExpansion.{sub_word}
use Rattle.aes_tables.proofs.Lookup.{sbox-table}
use Rattle.aes_tables.proofs.tables.TablesSBox.sub_word.Goals as goal

pub returns : goal.returns
unfolding sub_word
returns c =
    let at = sbox-table.at in
    let t = c.args.t in
    λ j. at (get_or t 0 0) (search rules) j ∷ at (get_or t 1 0) (search rules) j ∷ at (get_or t 2 0) (search rules) j ∷ at (get_or t 3 0) (search rules) j ∷ []
