-- The remainder is `serial_of_id`. Assumes nothing.
use Rattle.std.proofs.Common.{arith}
use Rattle.fields.specs.Steps.Layout.{serial_of_id_is, most_opens_lem}
use Rattle.fields.proofs.layout.id.serial_of_id.Goals as goal

pub returns : goal.returns
returns c = omega (arith, serial_of_id_is c.args.i, most_opens_lem)
