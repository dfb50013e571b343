-- One frame to the tab, and the mark is cleared. Assumes nothing.
use Rattle.rules.proofs.Steps.Deliver.{passed}
use Rattle.tabs.proofs.deliver.pass_on.Goals as goal

pub returns : goal.returns
returns c =
    passed _ _ _ _ _ c.id.ensures.0 c.send_raw-n.ensures c.clear_mark.ensures
    c.done.ensures
