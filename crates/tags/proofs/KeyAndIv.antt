-- A key and an IV of the right lengths: their rows are passed, whatever stands behind them.
use mathlib.Core.Path.{◌≡◌}
use mathlib.Core.Bool.{Bool}
use mathlib.Core.List.{List, ◌++◌}
use Prim.Native.Nat.{ℕ}
use lib.ListN.{length}
use Rattle.std.specs.Prelude.{Ok}
use Rattle.fips197.specs.Aes.{KeyLength}
use Rattle.mode.specs.Table.{first_row}
use Rattle.mode.specs.Refusals.{passed}
use Rattle.mode.proofs.Rows.{front_passes}
use Rattle.mode.proofs.Passed.{key_passed, iv_16}
use Rattle.mode.proofs.Answers.{has_passed}
use Rattle.tags.specs.Work.{key_and_iv_rows}

module _ (key iv : List ℕ) {u : Unit {0}} (h : Ok u ≡ passed (first_row (key_and_iv_rows key iv))) where
  none : first_row (key_and_iv_rows key iv) ≡ 0
  none = has_passed (first_row (key_and_iv_rows key iv)) h

  pub lengths_pass : (rows : List (ℕ × Bool)) → first_row (key_and_iv_rows key iv ++ rows) ≡ first_row rows
  lengths_pass rows = front_passes (key_and_iv_rows key iv) rows tt none

  pub key_taken : KeyLength key
  key_taken = key_passed key _ none

  pub iv_taken : length iv ≡ 16
  iv_taken = iv_16 key iv _ none
