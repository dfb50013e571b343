-- One error action to the tab. Assumes nothing.
use Rattle.rules.proofs.Steps.Tab.{deny_done}
use Rattle.tabs.proofs.tab.deny.Goals as goal

pub returns : goal.returns
returns c =
    deny_done _ _ c.args.k c.send_bare-n.ensures c.id.ensures.0 c.done.ensures
