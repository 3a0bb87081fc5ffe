-- The function and the constant by the number of the round.
use Rattle.std.proofs.Common.{le-ltb, lt-ltb}
use Rattle.fips180.specs.Sha1.{round, f, constant, ch, parity, maj, complement}
use Rattle.fips180.proofs.compress.round.Goals as goal

pub returns-then-t-lt20 : goal.returns-then-t-lt20
unfolding round f constant ch parity maj complement
returns-then-t-lt20 c = rw (lt-ltb c.args.t 20 c.if-t-lt20.true) c.step.ensures

pub returns-then-t-lt40 : goal.returns-then-t-lt40
unfolding round f constant ch parity maj complement
returns-then-t-lt40 c =
    let t = c.args.t in
    rw (le-ltb t 20 c.if-t-lt20.false, lt-ltb t 40 c.if-t-lt40.true) c.step-then-t-lt40.ensures

pub returns-then-t-lt60 : goal.returns-then-t-lt60
unfolding round f constant ch parity maj complement
returns-then-t-lt60 c =
    let t = c.args.t in
    rw (le-ltb t 20 c.if-t-lt20.false, le-ltb t 40 c.if-t-lt40.false, lt-ltb t 60 c.if-t-lt60.true) c.step-then-t-lt60.ensures

pub returns : goal.returns
unfolding round f constant ch parity maj complement
returns c =
    let t = c.args.t in
    rw (le-ltb t 20 c.if-t-lt20.false, le-ltb t 40 c.if-t-lt40.false, le-ltb t 60 c.if-t-lt60.false) c.step-2.ensures
