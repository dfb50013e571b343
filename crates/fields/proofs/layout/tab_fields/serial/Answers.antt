-- The two bytes that are read are the field's. Assumes nothing.
use Rattle.std.proofs.Common.{arith, sym, ◌∙◌}
use Rattle.fields.specs.Steps.Layout.{seen, serial_lies, most_opens_lem}
use Rattle.fields.proofs.layout.tab_fields.serial.Goals as goal

pub returns : goal.returns
returns c =
    let lies = serial_lies c.requires.seat c.requires.slot c.tab_at.ensures.0 in
    (c.num_at.ensures.number ∙ sym (seen c.args.t.now lies), omega (arith, c.num_at.ensures.small, most_opens_lem))
