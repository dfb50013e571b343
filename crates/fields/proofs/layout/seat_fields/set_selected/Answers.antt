-- The byte is written where the field lies. Assumes nothing.
use Rattle.std.proofs.Common.{arith, refl}
use Rattle.fields.specs.Steps.Layout.{wrote_byte, selected_lies}
use Rattle.fields.proofs.layout.seat_fields.set_selected.Goals as goal

pub returns : goal.returns
returns c =
    let lies = selected_lies c.requires.0.seat c.seat_at.ensures.0 in
    wrote_byte c.requires.0.long lies (omega arith) refl
