-- The tab is selected, and its seat's screen paints; or it is not, and nothing happens. Assumes nothing.
use Rattle.std.proofs.Common.{arith}
use Rattle.rules.proofs.Steps.Desk.{tab_ready, the_seat, seat_lt}
use Rattle.rules.proofs.Steps.Tab.{display_none, display_done}
use Rattle.tabs.proofs.tab.display.Goals as goal

pub selected-requires : goal.selected-requires
selected-requires c =
    the_seat (tab_ready c.requires.0)

pub returns-then-selected-k : goal.returns-then-selected-k
returns-then-selected-k c = display_none _ _ _ _ c.selected.ensures.0 c.if-selected-k.true c.done.ensures

pub send_raw-n-requires : goal.send_raw-n-requires
send_raw-n-requires c =
    let w = c.requires in
    record { room = omega (arith, w.0.roomy, w.1); small = w.1; short = seat_lt w.0 }

pub returns : goal.returns
returns c =
    display_done _ _ _ _ c.selected.ensures.0 c.if-selected-k.false c.send_raw-n.ensures
    c.done-2.ensures
