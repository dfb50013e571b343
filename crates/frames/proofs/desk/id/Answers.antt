-- The id is made of the seat and the tab's serial, which is one of the seat's opens. Assumes nothing.
use Rattle.rules.proofs.Steps.Desk.{the_tab, id_fits, id_is}
use Rattle.frames.proofs.desk.id.Goals as goal

pub serial-requires : goal.serial-requires
serial-requires c = the_tab c.requires

pub tab_id-requires : goal.tab_id-requires
tab_id-requires c = id_fits c.requires c.serial.ensures.0

pub returns : goal.returns
returns c = (id_is _ _ _ c.serial.ensures.0 c.tab_id.ensures.0, c.tab_id.ensures.1)
