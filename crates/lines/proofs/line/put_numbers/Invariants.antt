-- The loop keeps: the numbers before this one are written, and the rest of the room stays. Assumes nothing.
use Rattle.logs.specs.Laws.Lines.{Numbered}
use Rattle.lines.proofs.line.put_numbers.Given as goal

abbrev pub invariant-loop-n : goal.invariant-loop-n
invariant-loop-n l = Numbered l.initial.out l.at l.numbers l.out l.to l.n-index
