-- The four bytes that are read are the field's. Assumes nothing.
use Rattle.std.proofs.Common.{arith, sym, ◌∙◌}
use Rattle.fields.specs.Steps.Layout.{seen, number_lies, most_number_lem}
use Rattle.fields.proofs.layout.row_fields.number.Goals as goal

pub returns : goal.returns
returns c =
    let lies = number_lies c.requires.row c.row_at.ensures.0 in
    (c.num_at.ensures.number ∙ sym (seen c.args.t.now lies), omega (arith, c.num_at.ensures.small, most_number_lem))
