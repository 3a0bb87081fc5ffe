-- A run as it is sealed, with the padding of a last run.
use Rattle.std.specs.Prelude.{Bool, true, false, List, ℕ, ◌+◌, ◌*◌, ◌/◌}
use Rattle.mode.specs.Mode.{padded}
use Rattle.mode.specs.Calls.{Kind, middle, last}

-- document 01's middle and last runs, by the code's flag
unfoldable pub kind_of : Bool → Kind
kind_of true = last
kind_of false = middle

-- the bytes, and the padding of a last run
unfoldable pub laid_out : Bool → List ℕ → List ℕ
laid_out true bytes = padded bytes
laid_out false bytes = bytes

unfoldable pub laid_out_length : Bool → ℕ → ℕ
laid_out_length true n = n / 16 * 16 + 16
laid_out_length false n = n
