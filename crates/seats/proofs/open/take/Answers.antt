-- The frames are sent and the table takes the tab: four actions if no process had this owner and suffix, three if one had.
-- Assumes nothing.
use Rattle.std.proofs.Common.{arith, false, refl, true}
use Rattle.fields.specs.Table.{view}
use Rattle.fields.specs.Laws.Asked.{open_seat}
use Rattle.fields.specs.Laws.Lowest.{is_new_any}
use Rattle.rules.specs.Sheet.{new_id, desk_at}
use Rattle.rules.proofs.Laws.Seat.{open_modest}
use Rattle.rules.proofs.Steps.Open.{take_done}
use Rattle.seats.proofs.open.take.Goals as goal

pub owner_at-owner-requires : goal.owner_at-owner-requires
owner_at-owner-requires c =
    open_seat c.requires.takes

pub process_with-p-requires : goal.process_with-p-requires
process_with-p-requires c =
    (open_seat c.requires.takes).long

pub send_open-n-requires : goal.send_open-n-requires
send_open-n-requires c =
    (c.requires, record { owner= = c.owner_at-owner.ensures; new= = is_new_any _ c.process_with-p.ensures.found c.is_none-new.ensures })

pub done-requires : goal.done-requires
done-requires c =
    let a = c.args in
    let z = (open_modest (desk_at a.t.now a.s) (new_id (view a.t.now) a.s) a.x.now
    c.requires.takes.long.high).short in
    omega (arith, z, c.send_open-n.ensures.next)

pub returns-then-new : goal.returns-then-new
returns-then-new c =
    take_done _ _ _ true
    (record { owner= = c.owner_at-owner.ensures; new= = is_new_any _ c.process_with-p.ensures.found c.is_none-new.ensures })
    c.if-new.true c.send_open-n.ensures c.«open».ensures c.done.ensures refl

pub done-requires-else-new : goal.done-requires-else-new
done-requires-else-new c =
    let a = c.args in
    let z = (open_modest (desk_at a.t.now a.s) (new_id (view a.t.now) a.s) a.x.now
    c.requires.takes.long.high).short in
    omega (arith, z, c.send_open-n.ensures.next)

pub returns-else-new : goal.returns-else-new
returns-else-new c =
    take_done _ _ _ false
    (record { owner= = c.owner_at-owner.ensures; new= = is_new_any _ c.process_with-p.ensures.found c.is_none-new.ensures })
    c.if-new.false c.send_open-n.ensures c.«open».ensures c.done-else-new.ensures refl
