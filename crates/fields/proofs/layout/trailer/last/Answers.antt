-- The four bytes that are read are the field's. Assumes nothing.
use Rattle.std.proofs.Common.{arith, sym, ◌∙◌}
use Rattle.fields.specs.Steps.Layout.{table_bytes_lem, seen, last_lies, most_number_lem}
use Rattle.fields.proofs.layout.trailer.last.Goals as goal

pub num_at-requires-clause-inside : goal.num_at-requires-clause-inside
num_at-requires-clause-inside c = omega (arith, table_bytes_lem)

pub returns : goal.returns
returns c =
    let t = c.args.t.now in
    (c.num_at.ensures.number ∙ sym (seen t last_lies), omega (arith, c.num_at.ensures.small, most_number_lem))
