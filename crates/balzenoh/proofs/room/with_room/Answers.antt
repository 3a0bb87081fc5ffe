-- Refused by the call, or for want of room, or given.
use Rattle.std.proofs.lemmas.Result.{err_from_is_err_and}
use Rattle.balzenoh.proofs.Lent.{room_asked, room_short, room_enough}
use Rattle.balzenoh.proofs.room.with_room.Goals as goal

pub returns-in_err-given : goal.returns-in_err-given
returns-in_err-given g c =
    let a = c.args in
    let p = err_from_is_err_and c.from_residual.result c.from_residual.ensures.1 in
    rw (p.1, p.2) (room_asked a.room a.needed a.answer _ c.in_err-given.was)

pub returns-then-room-needed : goal.returns-then-room-needed
returns-then-room-needed g c = let a = c.args in room_short a.room a.needed a.answer c.in_ok-given.given c.in_ok-given.was c.if-room-needed.true

pub returns : goal.returns
returns g c = let a = c.args in room_enough a.room a.needed a.answer c.in_ok-given.given c.in_ok-given.was c.if-room-needed.false
