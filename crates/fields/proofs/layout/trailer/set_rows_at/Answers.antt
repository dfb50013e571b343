-- The number is written where the field lies. Assumes nothing.
use Rattle.std.proofs.Common.{arith}
use Rattle.fields.specs.Steps.Layout.{table_bytes_lem, wrote, rows_at_lies}
use Rattle.fields.proofs.layout.trailer.set_rows_at.Goals as goal

pub put_num-requires : goal.put_num-requires
put_num-requires c = omega (arith, table_bytes_lem)

pub returns : goal.returns
returns c = wrote c.requires.0 rows_at_lies c.put_num.ensures
