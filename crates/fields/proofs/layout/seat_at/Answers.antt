-- The seat is one of eight, and the product is `seat_at`. Assumes nothing.
use Rattle.std.proofs.Common.{arith}
use Rattle.fields.specs.Steps.Layout.{table_bytes_lem, seat_at_is}
use Rattle.fields.proofs.layout.seat_at.Goals as goal

pub returns : goal.returns
returns c = omega (arith, table_bytes_lem, seat_at_is c.args.s)
