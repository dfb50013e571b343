-- Denied, or fetched with the mark set. Assumes nothing.
use Rattle.rules.proofs.Steps.Desk.{tab_ready}
use Rattle.rules.proofs.Steps.Tab.{fetch_quiet, url_denied, url_done}
use Rattle.tabs.proofs.tab.url.Goals as goal

pub returns-then-not-may_fetch : goal.returns-then-not-may_fetch
returns-then-not-may_fetch c =
    url_denied _ _ _ _ c.may_fetch.ensures c.if-not-may_fetch.true c.deny.ensures

pub set_mark-requires : goal.set_mark-requires
set_mark-requires c =
    (tab_ready c.requires.0, fetch_quiet _ _ _ _ c.may_fetch.ensures c.if-not-may_fetch.false)

pub returns : goal.returns
returns c =
    url_done _ _ _ _ c.may_fetch.ensures c.if-not-may_fetch.false c.id.ensures.0
    c.send_raw-n.ensures
    c.set_mark.ensures c.done.ensures
