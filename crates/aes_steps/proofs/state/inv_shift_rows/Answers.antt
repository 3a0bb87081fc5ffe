-- By places that are a whole number of columns.
use Rattle.fips197.specs.State.{inv_shift_rows}
use Rattle.aes_steps.proofs.state.inv_shift_rows.Goals as goal

pub returns : goal.returns
unfolding inv_shift_rows
returns c = c.turn_rows.ensures
