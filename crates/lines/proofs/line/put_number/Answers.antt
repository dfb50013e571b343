-- The space, and the number where it ends. Assumes nothing.
use Rattle.std.proofs.Common.{arith}
use Rattle.logs.specs.Laws.Lines.{wrote_number}
use Rattle.lines.proofs.line.put_number.Goals as goal

pub returns : goal.returns
returns c =
    wrote_number _ (omega (arith, c.requires)) c.put-next.ensures c.put_decimal.ensures
