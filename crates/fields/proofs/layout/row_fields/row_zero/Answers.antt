-- The byte that is read is the field's. Assumes nothing.
use Rattle.std.proofs.Common.{sym}
use Rattle.fields.specs.Steps.Layout.{seen_byte, row_zero_lies}
use Rattle.fields.proofs.layout.row_fields.row_zero.Goals as goal

pub returns : goal.returns
returns c =
    let lies = row_zero_lies c.requires.row c.row_at.ensures.0 in
    sym (seen_byte c.args.t.now lies)
