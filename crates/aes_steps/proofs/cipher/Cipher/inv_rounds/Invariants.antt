-- What is left to undo from here is what there was to undo from the start.
use mathlib.Core.Path.{◌≡◌}
use Prim.Native.Nat.{◌≤◌}
use lib.Seq.{slice}
use Rattle.fips197.specs.Cipher.{inv_rounds}
use Rattle.aes_steps.specs.Schedule.{round_keys_in}
use Rattle.aes_steps.proofs.cipher.Cipher.inv_rounds.Given as goal

abbrev pub invariant-loop-i : goal.invariant-loop-i
invariant-loop-i g l = (l.from ≤ l.i) × (l.i ≤ l.to) × (inv_rounds (slice l.from l.i (round_keys_in l.self.keys.schedule.now)) l.t ≡ inv_rounds (slice l.from l.to (round_keys_in l.self.keys.schedule.now)) l.initial.t)
