-- Allowed or denied by port, host and the tab's suffix. Assumes nothing.
use Rattle.std.proofs.Common.{arith, ◌∙◌}
use Rattle.rules.proofs.Steps.Put.{two_is}
use Rattle.rules.proofs.Steps.Send.{name_size}
use Rattle.rules.proofs.Steps.Tab.{socket_denied, socket_done}
use Rattle.tabs.proofs.tab.socket.Goals as goal

pub returns-then-not-is_socket_allowed : goal.returns-then-not-is_socket_allowed
returns-then-not-is_socket_allowed c =
    socket_denied _ _ _ _ _ c.is_socket_allowed.ensures c.suffix.ensures
    c.if-not-is_socket_allowed.true c.deny.ensures

pub done-requires : goal.done-requires
done-requires c =
    let n = name_size c.to_be_bytes-lead.result c.args.host.now c.send_name-n.ensures in
    omega (arith, c.requires.1, n)

pub returns : goal.returns
returns c =
    socket_done _ _ _ _ _ c.is_socket_allowed.ensures c.suffix.ensures
    c.if-not-is_socket_allowed.false
    (c.to_be_bytes-lead.ensures ∙ two_is c.args.port) c.id.ensures.0 c.send_name-n.ensures c.done.ensures
