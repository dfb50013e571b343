-- The table is sound, so the map has a bit for each live tab, and the trailing zeros of its complement lead to the lowest
-- free slot. Assumes nothing.
use Rattle.std.proofs.Common.{refl}
use Rattle.fields.specs.Laws.Asked.{sound_seat}
use Rattle.fields.specs.Steps.Slots.{free_found}
use Rattle.table.proofs.slots.free_slot.Goals as goal

pub slots-requires : goal.slots-requires
slots-requires c = sound_seat c.requires.sound c.requires.seat

pub returns : goal.returns
returns c = free_found _ _ c.requires c.slots.ensures.0 refl
