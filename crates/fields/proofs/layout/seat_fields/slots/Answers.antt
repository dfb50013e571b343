-- The two bytes that are read are the field's. Assumes nothing.
use Rattle.std.proofs.Common.{sym, ◌∙◌}
use Rattle.fields.specs.Steps.Layout.{seen, slots_lies}
use Rattle.fields.proofs.layout.seat_fields.slots.Goals as goal

pub returns : goal.returns
returns c =
    let lies = slots_lies c.requires.seat c.seat_at.ensures.0 in
    (c.num_at.ensures.number ∙ sym (seen c.args.t.now lies), c.num_at.ensures.small)
