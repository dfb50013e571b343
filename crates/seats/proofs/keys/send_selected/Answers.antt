-- Render, and then the bar of the tab that is selected. Assumes nothing.
use Rattle.std.proofs.Common.{arith}
use Rattle.rules.proofs.Steps.Desk.{shows_live}
use Rattle.rules.proofs.Steps.Keys.{selected_sent}
use Rattle.seats.proofs.keys.send_selected.Goals as goal

pub send_bar-requires : goal.send_bar-requires
send_bar-requires c =
    let w = c.requires in
    let s = c.send_bare-a.ensures in
    let n = s.next in
    let l = s.same in
    (shows_live w, omega (arith, w.roomy, n, l))

pub returns : goal.returns
returns c =
    selected_sent c.requires c.send_bare-a.ensures c.send_bar.ensures c.id.ensures.0
