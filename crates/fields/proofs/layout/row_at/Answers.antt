-- The row is one of 80, and the sum is `row_at`. Assumes nothing.
use Rattle.std.proofs.Common.{arith}
use Rattle.fields.specs.Steps.Layout.{table_bytes_lem, row_at_is}
use Rattle.fields.proofs.layout.row_at.Goals as goal

pub returns : goal.returns
returns c = omega (arith, table_bytes_lem, row_at_is c.args.p)
