-- The four words, spelt out.
use Rattle.std.proofs.Common.{rules}
use Rattle.fips180.specs.Sha1.{rotl}
use Rattle.fips180.proofs.Schedule.{mixed}
use Rattle.fips180.proofs.Rounds.{Quads, next_made}
use Rattle.fips180.proofs.compress.next_four.Goals as goal

pub returns : goal.returns
unfolding mixed rotl
returns c =
    let k : Quads c.args.a c.args.b c.args.c c.args.d = record { la = search rules; lb = search rules; lc = search rules; ld = search rules } in
    next_made k _ _ _ _ c.rotate_left-first.ensures c.rotate_left-second.ensures c.rotate_left-third.ensures c.rotate_left-fourth.ensures
