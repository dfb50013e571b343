-- The number of the tab row says what is waited for. Assumes nothing.
use Rattle.std.proofs.Common.{arith}
use Rattle.std.proofs.lemmas.Grind.{common_steps}
use Rattle.fields.specs.Steps.Mark.{waits_is}
use Rattle.table.proofs.Marks.{number_is}
use Rattle.table.proofs.mark.is_waiting.Goals as goal

pub returns-then-now-m : goal.returns-then-now-m
returns-then-now-m c = rw waits_is (grind (arith, common_steps, number_is))

pub returns-else-now-m : goal.returns-else-now-m
returns-else-now-m c = rw waits_is (grind (arith, common_steps, number_is))
