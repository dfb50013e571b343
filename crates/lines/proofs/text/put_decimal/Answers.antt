-- Twenty digits at most. Assumes nothing.
use Rattle.logs.specs.Laws.Digits.{wrote_decimal}
use Rattle.lines.proofs.text.put_decimal.Goals as goal

pub returns : goal.returns
returns c = wrote_decimal _ c.put_digits.ensures
