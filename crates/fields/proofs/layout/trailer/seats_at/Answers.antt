-- The two bytes that are read are the field's. Assumes nothing.
use Rattle.std.proofs.Common.{arith, sym, ◌∙◌}
use Rattle.fields.specs.Steps.Layout.{table_bytes_lem, seen, seats_at_lies}
use Rattle.fields.proofs.layout.trailer.seats_at.Goals as goal

pub num_at-requires-clause-inside : goal.num_at-requires-clause-inside
num_at-requires-clause-inside c = omega (arith, table_bytes_lem)

pub returns : goal.returns
returns c = c.num_at.ensures.number ∙ sym (seen c.args.t.now seats_at_lies)
