-- The loop keeps: the seats below are counted, and the slots below k of this one. A live tab points at a row that is there, and no
-- count passes 80. Assumes nothing.
use Rattle.std.proofs.Common.{◌-◌}
use Rattle.fields.specs.Table.{view}
use Rattle.fields.specs.Steps.Count.{Counting}
use Rattle.soundness.proofs.count.count_seat.Given as goal

abbrev pub invariant-loop-k : goal.invariant-loop-k
invariant-loop-k l = Counting (view l.t) l.s (l.k - 1) l.counts
