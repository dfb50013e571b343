-- The tab's process row counts one tab. Assumes nothing.
use Rattle.rules.proofs.Steps.Desk.{the_tab, the_row, last_is}
use Rattle.frames.proofs.desk.is_last.Goals as goal

pub row-requires : goal.row-requires
row-requires c = the_tab c.requires

pub tabs-requires : goal.tabs-requires
tabs-requires c = the_row c.requires c.row.ensures.0

pub returns : goal.returns
returns c = last_is _ _ _ c.row.ensures.0 c.tabs.ensures.0
