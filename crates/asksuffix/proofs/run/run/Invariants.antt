-- `run::run`: turn after turn; turns lead to wherever it is left.
use Rattle.asksuffix.specs.Laws.Run.{Running}
use Rattle.asksuffix.proofs.run.run.Given as goal

abbrev pub invariant-loop : goal.invariant-loop
invariant-loop g l = Running l.book l.initial.buf l.initial.out l.buf l.out l.p l.counter
