-- Four rounds.
use Rattle.std.proofs.Common.{◌≡◌, length, rules}
use Rattle.fips180.proofs.Rounds.{four_in_turn}
use Rattle.fips180.proofs.compress.four_rounds.Goals as goal

pub returns : goal.returns
returns c =
    let a = c.args in
    let l : length a.w ≡ 4 = search rules in
    four_in_turn a.t a.w a.s _ _ _ _ l c.round-a.ensures c.round-b.ensures c.round-c.ensures c.round.ensures
