-- The loop keeps: the digits so far are the number so far. Assumes nothing.
use Rattle.std.proofs.Common.{◌≡◌, Some}
use Rattle.runs.specs.Decimal.{digits}
use Rattle.runs.proofs.number.number_of.Given as goal

abbrev pub invariant-loop-digit : goal.invariant-loop-digit
invariant-loop-digit l = digits l.w l.digit-index ≡ Some l.n
