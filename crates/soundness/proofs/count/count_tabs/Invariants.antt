-- The loop keeps: the tabs of the seats below s are counted. Assumes nothing.
use Rattle.std.proofs.Common.{◌-◌}
use Rattle.fields.specs.Table.{view}
use Rattle.fields.specs.Inner.{TabCounts}
use Rattle.soundness.proofs.count.count_tabs.Given as goal

abbrev pub invariant-loop-s : goal.invariant-loop-s
invariant-loop-s l = TabCounts (view l.t) (l.s - 1) l.counts
