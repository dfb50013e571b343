-- The table is sound, so the map has a bit for each live tab, and its ones are counted. Assumes nothing.
use Rattle.fields.specs.Laws.Asked.{sound_seat}
use Rattle.fields.specs.Steps.Slots.{live_count}
use Rattle.table.proofs.slots.live_tabs.Goals as goal

pub slots-requires : goal.slots-requires
slots-requires c = sound_seat c.requires.0 c.requires.1

pub returns : goal.returns
returns c = live_count _ _ c.requires.0 c.requires.1 c.slots.ensures.0
