-- The quotient is `seat_of_id`. Assumes nothing.
use Rattle.std.proofs.Common.{sym}
use Rattle.fields.specs.Steps.Layout.{seat_of_id_is}
use Rattle.fields.proofs.layout.id.seat_of_id.Goals as goal

pub returns : goal.returns
returns c = sym (seat_of_id_is c.args.i)
