-- The number is written where the field lies. Assumes nothing.
use Rattle.std.proofs.Common.{arith}
use Rattle.fields.specs.Steps.Layout.{table_bytes_lem, wrote, last_lies, most_number_lem}
use Rattle.fields.proofs.layout.trailer.set_last.Goals as goal

pub put_num-requires : goal.put_num-requires
put_num-requires c = omega (arith, table_bytes_lem, most_number_lem)

pub returns : goal.returns
returns c = wrote c.requires.0 last_lies c.put_num.ensures
