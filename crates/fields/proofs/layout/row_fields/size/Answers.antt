-- The byte that is read is the field's. Assumes nothing.
use Rattle.std.proofs.Common.{rules, sym, ◌∙◌}
use Rattle.fields.specs.Steps.Layout.{seen_byte, size_lies}
use Rattle.fields.proofs.layout.row_fields.size.Goals as goal

pub returns : goal.returns
returns c =
    let lies = size_lies c.requires.row c.row_at.ensures.0 in
    (c.from.ensures ∙ sym (seen_byte c.args.t.now lies), search rules)
