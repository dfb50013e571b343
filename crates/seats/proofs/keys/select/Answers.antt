-- A slot that is not live changes nothing; a live one is selected after render and bar are sent. Assumes nothing.
use Rattle.std.proofs.Common.{arith, sym, ◌∙◌}
use Rattle.fields.specs.Table.{view}
use Rattle.rules.proofs.Steps.Desk.{seat_ready, suffix_short}
use Rattle.rules.proofs.Steps.Keys.{select_none, select_done}
use Rattle.seats.proofs.keys.select.Goals as goal

pub is_live-requires : goal.is_live-requires
is_live-requires c =
    let w = seat_ready c.requires.0 in
    record { long = w.long; seat = w.seat; slot = c.requires.1 }

pub returns-then-not-is_live : goal.returns-then-not-is_live
returns-then-not-is_live c = select_none _ (sym c.is_live.ensures ∙ c.if-not-is_live.true) c.done.ensures

pub done-requires-2 : goal.done-requires-2
done-requires-2 c =
    let a = c.args in
    let l = suffix_short (view a.t.now) a.s a.k in
    omega (arith, l, c.send_selected-n.ensures.next)

pub returns : goal.returns
returns c =
    select_done _ (sym c.is_live.ensures ∙ c.if-not-is_live.false)
    c.send_selected-n.ensures c.pick.ensures c.done-2.ensures
