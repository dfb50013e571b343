-- With no tab selected nothing happens; else the actions are sent and the selected tab is closed. Three actions if it was the
-- last tab of its process, two if not. Assumes nothing.
use Rattle.std.proofs.Common.{arith, false, sym, true, ◌∙◌}
use Rattle.rules.specs.Sheet.{desk_at}
use Rattle.rules.proofs.Steps.Desk.{tab_ready, seat_ready, chosen_ready, chosen_closable}
use Rattle.rules.proofs.Laws.Seat.{close_modest}
use Rattle.rules.proofs.Steps.Keys.{close_none, close_done}
use Rattle.seats.proofs.keys.close.Goals.{then-last, else-last}
use Rattle.seats.proofs.keys.close.Goals as goal

pub selected-k-requires : goal.selected-k-requires
selected-k-requires c =
    seat_ready c.requires

pub returns-then-k-eq0 : goal.returns-then-k-eq0
returns-then-k-eq0 c = close_none c.selected-k.ensures.0 c.if-k-eq0.true c.done.ensures

pub is_last-last-requires : goal.is_last-last-requires
is_last-last-requires c =
    tab_ready (chosen_ready c.requires c.selected-k.ensures.0 c.if-k-eq0.false)

pub send_closed-n-requires : goal.send_closed-n-requires
send_closed-n-requires c = chosen_ready c.requires c.selected-k.ensures.0 c.if-k-eq0.false

pub close-requires : goal.close-requires
close-requires c =
    chosen_closable c.requires c.selected-k.ensures.0 c.if-k-eq0.false

pub done-requires-2 : goal.done-requires-2
done-requires-2 c =
    let z = (close_modest (desk_at c.args.t.now c.args.s) c.selected-k.result).short in
    omega (arith, z, c.send_closed-n.ensures.next)

pub returns : goal.returns
returns c =
    elim c.if-last.branch [
      | then-last w
          ↦ close_done true c.selected-k.ensures.0 c.if-k-eq0.false (sym w.if-last.true ∙ c.is_last-last.ensures)
          c.send_closed-n.ensures c.close.ensures c.done-2.ensures w.done-is
      | else-last w
          ↦ close_done false c.selected-k.ensures.0 c.if-k-eq0.false (sym w.if-last.false ∙ c.is_last-last.ensures)
          c.send_closed-n.ensures c.close.ensures c.done-2.ensures w.done-is
    ]
