-- The length is compared with `table_bytes`. Assumes nothing.
use Rattle.std.proofs.Common.{ap, eqb, length, sym}
use Rattle.fields.specs.Steps.Layout.{table_bytes_lem}
use Rattle.fields.proofs.layout.whole.is_long.Goals as goal

pub returns : goal.returns
returns c = ap (eqb (length c.args.t.now)) (sym table_bytes_lem)
