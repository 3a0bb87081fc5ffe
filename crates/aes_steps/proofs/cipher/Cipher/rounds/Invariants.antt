-- What is left to do from here is what there was to do from the start.
use mathlib.Core.Path.{◌≡◌}
use Prim.Native.Nat.{◌≤◌}
use lib.Seq.{slice}
use Rattle.fips197.specs.Cipher.{rounds}
use Rattle.aes_steps.specs.Schedule.{round_keys_in}
use Rattle.aes_steps.proofs.cipher.Cipher.rounds.Given as goal

abbrev pub invariant-loop-i : goal.invariant-loop-i
invariant-loop-i g l = (l.i ≤ l.to) × (rounds (slice l.i l.to (round_keys_in l.self.keys.schedule.now)) l.t ≡ rounds (slice l.from l.to (round_keys_in l.self.keys.schedule.now)) l.initial.t)
