-- The loop keeps: at most one change a byte. Assumes nothing.
use Rattle.std.proofs.Common.{◌≤◌, length}
use Rattle.runs.proofs.changes.count.Given as goal

abbrev pub invariant-loop-i : goal.invariant-loop-i
invariant-loop-i l = (l.n ≤ l.i) × (l.i ≤ length l.new)
