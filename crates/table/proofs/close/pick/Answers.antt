-- The one write is the update's; a slot fits a byte. Assumes nothing.
use Rattle.fields.specs.Steps.Close.{pick_seat, picked_of}
use Rattle.table.proofs.close.pick.Goals as goal

pub set_selected-requires : goal.set_selected-requires
set_selected-requires c = pick_seat c.requires

pub returns : goal.returns
returns c = picked_of c.set_selected.ensures
