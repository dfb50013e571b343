-- The byte that is read is the field's. Assumes nothing.
use Rattle.std.proofs.Common.{sym}
use Rattle.fields.specs.Steps.Layout.{seen_byte, letter_lies}
use Rattle.fields.proofs.layout.row_fields.letter.Goals as goal

pub returns : goal.returns
returns c =
    let lies = letter_lies c.requires.row c.row_at.ensures.0 c.requires.place in
    sym (seen_byte c.args.t.now lies)
