-- The loop keeps: the number so far is that of the bytes read. Assumes nothing.
use Rattle.std.proofs.Common.{◌≡◌}
use Rattle.terms.specs.Names.{num}
use Rattle.terms.proofs.num.num_at.Given as goal

abbrev pub invariant-loop-b : goal.invariant-loop-b
invariant-loop-b g l = l.x ≡ num l.t l.at l.b-index
