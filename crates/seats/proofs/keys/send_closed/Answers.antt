-- Stop tab, stop process if it is the last, and the bar of no slot, each where the one before it ends. Assumes nothing.
use Rattle.std.proofs.Common.{arith}
use Rattle.rules.specs.Sheet.{desk_at, stop_process}
use Rattle.rules.proofs.Steps.Desk.{tab_ready, shows_none}
use Rattle.rules.proofs.Laws.Sent.{size_only}
use Rattle.rules.proofs.Steps.Keys.{closed_sent}
use Rattle.seats.proofs.keys.send_closed.Goals as goal

pub send_stop-b-requires : goal.send_stop-b-requires
send_stop-b-requires c =
    let s = c.send_bare-a.ensures in (tab_ready c.requires, omega (arith, c.requires.roomy, s.next, s.same))

pub send_bar-requires : goal.send_bar-requires
send_bar-requires c =
    let w = c.requires in
    let s = c.send_bare-a.ensures in
    let q = c.send_stop-b.ensures in
    let d = desk_at c.args.t.now c.args.s in
    let z = size_only (d.last_tab c.args.k) (stop_process (d.process c.args.k)) in
    (shows_none w (omega arith), omega (arith, w.roomy, s.next, s.same, q.next, q.same, z))

pub returns : goal.returns
returns c = closed_sent c.requires c.send_bare-a.ensures c.send_stop-b.ensures c.send_bar.ensures c.id.ensures.0
