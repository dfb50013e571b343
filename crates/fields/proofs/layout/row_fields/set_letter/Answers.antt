-- The byte is written where the field lies. Assumes nothing.
use Rattle.std.proofs.Common.{arith, refl}
use Rattle.fields.specs.Steps.Layout.{wrote_byte, letter_lies}
use Rattle.fields.proofs.layout.row_fields.set_letter.Goals as goal

pub returns : goal.returns
returns c =
    let lies = letter_lies c.requires.row c.row_at.ensures.0 c.requires.place in
    wrote_byte c.requires.long lies (omega arith) refl
