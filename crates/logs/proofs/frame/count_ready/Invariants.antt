-- The loop keeps: so many events are counted, and the others that are wanted are sought in what stands after those. Assumes nothing.
use Rattle.logs.specs.Laws.Count.{Counted}
use Rattle.logs.proofs.frame.count_ready.Given as goal

abbrev pub invariant-loop-count : goal.invariant-loop-count
invariant-loop-count l = Counted l.s l.ended l.most l.at l.count
