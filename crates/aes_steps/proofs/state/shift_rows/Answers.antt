-- By places that are a whole number of columns.
use Rattle.fips197.specs.State.{shift_rows}
use Rattle.aes_steps.proofs.state.shift_rows.Goals as goal

pub returns : goal.returns
unfolding shift_rows
returns c = c.turn_rows.ensures
