-- A key, the mouse or an open: each has its function and its rule. Assumes nothing.
use Rattle.rules.proofs.Steps.Serve.{part_small, seat_key, seat_mouse, seat_open}
use Rattle.senders.proofs.from_seat.Goals as goal

pub pass-requires : goal.pass-requires
pass-requires c =
    (c.requires.0, part_small _ _ c.part_of.ensures (rw c.in-Mouse.is at c.requires.1))

pub returns-in-Key : goal.returns-in-Key
returns-in-Key c =
    seat_key _ _ _ c.in-Key.is c.key.ensures

pub returns-in-Mouse : goal.returns-in-Mouse
returns-in-Mouse c =
    seat_mouse _ _ _ c.in-Mouse.is c.part_of.ensures c.pass.ensures

pub returns-in-Open : goal.returns-in-Open
returns-in-Open c =
    seat_open _ _ _ c.in-Open.is c.part_of-in-Open.ensures c.«open».ensures
