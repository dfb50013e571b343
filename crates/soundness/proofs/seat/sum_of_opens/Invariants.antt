-- The loop keeps: n is the sum of the opens of the seats below s, which the machine can count. Assumes nothing.
use Rattle.std.proofs.Common.{◌*◌, ◌-◌, ◌≡◌, ◌≤◌}
use Rattle.fields.specs.Base.{sum}
use Rattle.fields.specs.Table.{view, opens}
use Rattle.soundness.proofs.seat.sum_of_opens.Given as goal

abbrev pub invariant-loop-s : goal.invariant-loop-s
invariant-loop-s l = (l.n ≡ sum (l.s - 1) (λ x. view l.t (opens x))) × (l.n ≤ 4294967296 * l.s)
