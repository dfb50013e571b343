-- The number is written where the field lies. Assumes nothing.
use Rattle.std.proofs.Common.{arith}
use Rattle.fields.specs.Steps.Layout.{wrote, number_lies, most_number_lem}
use Rattle.fields.proofs.layout.row_fields.set_number.Goals as goal

pub put_num-requires : goal.put_num-requires
put_num-requires c = omega (arith, c, most_number_lem)

pub returns : goal.returns
returns c =
    let lies = number_lies c.requires.0.row c.row_at.ensures.0 in
    wrote c.requires.0.long lies c.put_num.ensures
