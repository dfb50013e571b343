-- The mark of a live tab. Assumes nothing.
use Rattle.rules.proofs.Steps.Desk.{the_tab}
use Rattle.tabs.proofs.deliver.is_asked.Goals as goal

pub is_waiting-requires : goal.is_waiting-requires
is_waiting-requires c = the_tab c.requires
