-- The byte is written where the field lies. Assumes nothing.
use Rattle.std.proofs.Common.{arith, refl}
use Rattle.fields.specs.Steps.Layout.{wrote_byte, size_lies}
use Rattle.fields.proofs.layout.row_fields.set_size.Goals as goal

pub returns : goal.returns
returns c =
    let lies = size_lies c.requires.0.row c.row_at.ensures.0 in
    wrote_byte c.requires.0.long lies (omega arith) refl
