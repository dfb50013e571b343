-- The byte is written where the field lies. Assumes nothing.
use Rattle.std.proofs.Common.{arith, refl}
use Rattle.fields.specs.Steps.Layout.{wrote_byte, owner_lies}
use Rattle.fields.proofs.layout.row_fields.set_owner.Goals as goal

pub returns : goal.returns
returns c =
    let lies = owner_lies c.requires.row c.row_at.ensures.0 in
    wrote_byte c.requires.long lies (omega arith) refl
