-- Ticket P2: the last power of the variable is kept from one join to the next, and the powers that are worked out are counted. Nothing of it
-- shows in what the calls answer (Calls).
use Rattle.std.specs.Prelude.{◌≡◌, Bool, false, cond, ℕ, Option, None, Some, ◌+◌, ◌^◌, ◌<◌, eqb, pos}
use Rattle.blocks.specs.declared.words.Words.{Words}
use Rattle.blocks.specs.Words.{bytes_of, words_of}
use Rattle.gf128.specs.Gf128.{power}
use Rattle.mode.specs.Mode.{RunRecord, in_words}
use Rattle.mode.specs.Table.{Answer, refused, given}
use Rattle.mode.specs.Calls.{join_two, record_of_answer}
-- as the code declares them
use Rattle.mode.specs.declared.power.Power.{Power}
use Rattle.mode.specs.declared.power.LastPower.{LastPower}
use Rattle.mode.specs.declared.KeptAnswer.{KeptAnswer}

-- before the first join: none is kept, and none was worked out
abbrev pub no_power : LastPower
no_power = record { kept = None; total = 0 }

-- what is kept is the variable to the power of its count
abbrev pub IsPower : Option Power → Type 0
IsPower None = Unit {0}
IsPower (Some p) = bytes_of p.power ≡ power (pos p.count)

-- what is asked of it: that, and that one more can be counted
pub record Keeps (last : LastPower) : Type 0 where
  pub right : IsPower last.kept
  pub room : last.total + 1 < 2 ^ 64

-- the power for a count, worked out, counted, and kept
unfoldable pub worked_out : LastPower → ℕ → LastPower
worked_out last count = record { kept = Some (record { count = count; power = words_of (power (pos count)) }); total = last.total + 1 }

-- whether the power of a count is the one that is kept
unfoldable pub is_kept : Option Power → ℕ → Bool
is_kept None count = false
is_kept (Some p) count = eqb p.count count

-- THE POWER FOR A COUNT: the one that is kept, where its count is this one; else worked out
unfoldable pub power_for : LastPower → ℕ → LastPower
power_for last count = cond (is_kept last.kept count) last (worked_out last count)

-- two records that can be joined, and the power that joining them takes: the variable to the count of the right one
pub record Joinable (l r : RunRecord) (p : Words) : Type 0 where
  pub counts : l.count + r.count < 2 ^ 32
  pub right : bytes_of p ≡ power (pos r.count)

-- what is kept after the join of two: where it is refused, what there was
unfoldable pub kept_after : Answer RunRecord → LastPower → ℕ → LastPower
kept_after (refused number) last count = last
kept_after (given joined) last count = power_for last count

-- THE JOIN OF TWO, with a kept power handed in
unfoldable pub join_keeping : RunRecord → RunRecord → LastPower → KeptAnswer
join_keeping l r last = record { answer = record_of_answer (join_two in_words l r); last = kept_after (join_two in_words l r) last r.count }
