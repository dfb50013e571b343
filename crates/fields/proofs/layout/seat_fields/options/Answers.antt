-- The byte that is read is the field's. Assumes nothing.
use Rattle.std.proofs.Common.{sym}
use Rattle.fields.specs.Steps.Layout.{seen_byte, options_lies}
use Rattle.fields.proofs.layout.seat_fields.options.Goals as goal

pub returns : goal.returns
returns c =
    let lies = options_lies c.requires.seat c.seat_at.ensures.0 in
    sym (seen_byte c.args.t.now lies)
