-- `run::run`: turn after turn; turns lead to wherever it is left.
use Rattle.logging.specs.Laws.Run.{Running}
use Rattle.logging.proofs.run.run.Given as goal

abbrev pub invariant-loop : goal.invariant-loop
invariant-loop g l = Running l.book l.initial.buf l.initial.table l.initial.out l.buf l.table l.out l.p l.counter
