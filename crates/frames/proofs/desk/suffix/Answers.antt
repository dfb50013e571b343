-- The name of the row that the tab hangs on. Assumes nothing.
use Rattle.rules.proofs.Steps.Desk.{the_tab, the_row, suffix_is}
use Rattle.frames.proofs.desk.suffix.Goals as goal

pub row-requires : goal.row-requires
row-requires c = the_tab c.requires

pub name-requires : goal.name-requires
name-requires c = the_row c.requires c.row.ensures.0

pub returns : goal.returns
returns c = suffix_is _ _ _ c.row.ensures.0 c.name.ensures
