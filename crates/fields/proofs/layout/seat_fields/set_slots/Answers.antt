-- The number is written where the field lies. Assumes nothing.
use Rattle.fields.specs.Steps.Layout.{wrote, slots_lies}
use Rattle.fields.proofs.layout.seat_fields.set_slots.Goals as goal

pub returns : goal.returns
returns c =
    let lies = slots_lies c.requires.0.seat c.seat_at.ensures.0 in
    wrote c.requires.0.long lies c.put_num.ensures
