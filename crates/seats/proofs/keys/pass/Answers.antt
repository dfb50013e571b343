-- With no tab selected nothing happens; else one frame goes to the selected tab. Assumes nothing.
use Rattle.rules.proofs.Steps.Desk.{tab_ready, seat_ready, chosen_ready}
use Rattle.rules.proofs.Steps.Keys.{pass_none, pass_done}
use Rattle.seats.proofs.keys.pass.Goals as goal

pub selected-k-requires : goal.selected-k-requires
selected-k-requires c =
    seat_ready c.requires.0

pub returns-then-k-eq0 : goal.returns-then-k-eq0
returns-then-k-eq0 c = pass_none _ _ _ c.selected-k.ensures.0 c.if-k-eq0.true c.done.ensures

pub id-requires : goal.id-requires
id-requires c =
    tab_ready (chosen_ready c.requires.0 c.selected-k.ensures.0 c.if-k-eq0.false)

pub returns : goal.returns
returns c =
    pass_done _ _ _ c.selected-k.ensures.0 c.if-k-eq0.false c.id.ensures.0
    c.send_raw-n.ensures c.done-2.ensures
