-- Denied, or asked of the tab's process with the mark set. A domain that is a name has at most 253 bytes. Assumes nothing.
use Rattle.std.proofs.Common.{ap, arith, length, ◌∙◌}
use Rattle.rules.proofs.Steps.Desk.{tab_ready}
use Rattle.rules.proofs.Steps.Put.{four_is}
use Rattle.rules.proofs.Steps.Send.{name_size}
use Rattle.rules.proofs.Steps.Tab.{retrieve_short, retrieve_quiet, retrieve_denied, retrieve_done}
use Rattle.tabs.proofs.tab.retrieve.Goals as goal

pub returns-then-not-may_retrieve : goal.returns-then-not-may_retrieve
returns-then-not-may_retrieve c =
    retrieve_denied _ _ _ _ c.may_retrieve.ensures c.if-not-may_retrieve.true
    c.deny.ensures

pub send_name-n-requires : goal.send_name-n-requires
send_name-n-requires c =
    let w = c.requires.roomy in
    let l = retrieve_short _ _ _ _ c.may_retrieve.ensures c.if-not-may_retrieve.false in
    let four_bytes = ap length c.to_be_bytes-lead.ensures in
    record
    { room = omega (arith, w, l, four_bytes); small = omega (arith, l, four_bytes); short = c.process.ensures.1 }

pub set_mark-requires : goal.set_mark-requires
set_mark-requires c =
    (tab_ready c.requires, retrieve_quiet _ _ _ _ c.may_retrieve.ensures c.if-not-may_retrieve.false)

pub done-requires : goal.done-requires
done-requires c =
    let l = retrieve_short _ _ _ _ c.may_retrieve.ensures c.if-not-may_retrieve.false in
    let n = name_size c.to_be_bytes-lead.result c.args.domain.now c.send_name-n.ensures in
    omega (arith, l, n)

pub returns : goal.returns
returns c =
    retrieve_done _ _ _ _ c.may_retrieve.ensures c.if-not-may_retrieve.false c.id.ensures.0
    (c.to_be_bytes-lead.ensures ∙ four_is _)
    c.process.ensures.0 c.send_name-n.ensures c.set_mark.ensures c.done.ensures
