-- The loop keeps: what is written, followed by the lines of the frames that are left, is all of them. Assumes nothing.
use Rattle.std.proofs.Common.{◌-◌}
use Rattle.logs.specs.Laws.Actions.{Going}
use Rattle.lines.proofs.line.put_actions.Given as goal

abbrev pub invariant-loop : goal.invariant-loop
invariant-loop l = Going l.initial.out l.at l.s l.count l.out l.to l.p (l.count - l.counter)
