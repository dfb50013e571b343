-- The byte that is read is the field's. Assumes nothing.
use Rattle.std.proofs.Common.{rules, sym, ◌∙◌}
use Rattle.fields.specs.Steps.Layout.{seen_byte, row_lies}
use Rattle.fields.proofs.layout.tab_fields.row.Goals as goal

pub returns : goal.returns
returns c =
    let lies = row_lies c.requires.seat c.requires.slot c.tab_at.ensures.0 in
    (c.from.ensures ∙ sym (seen_byte c.args.t.now lies), search rules)
