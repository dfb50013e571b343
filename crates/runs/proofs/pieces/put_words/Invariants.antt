-- The loop keeps: the place lies between where it began and the end. Assumes nothing.
use Rattle.std.proofs.Common.{◌≤◌, length}
use Rattle.runs.proofs.pieces.put_words.Given as goal

abbrev pub invariant-loop-w : goal.invariant-loop-w
invariant-loop-w l =
    (goal.iterator-loop-w).can_next l.w-iterator × (goal.iterator-loop-w).is_finite l.w-iterator
    × (l.at ≤ l.end) × (l.end ≤ length l.to)
