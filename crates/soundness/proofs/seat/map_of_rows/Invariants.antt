-- The loop keeps: the map has the bits of the slots below k. Assumes nothing.
use Rattle.std.proofs.Common.{◌-◌, ◌≡◌}
use Rattle.fields.specs.Base.{bits}
use Rattle.fields.specs.Table.{view, live}
use Rattle.soundness.proofs.seat.map_of_rows.Given as goal

abbrev pub invariant-loop-k : goal.invariant-loop-k
invariant-loop-k l = l.map ≡ bits (l.k - 1) (λ x. live (view l.t) l.s x)
