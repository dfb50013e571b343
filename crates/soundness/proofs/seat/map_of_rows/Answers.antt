-- The loop keeps: the map has the bits of the slots below k. Assumes nothing.
use Rattle.std.proofs.Common.{arith, sym}
use Rattle.fields.specs.Laws.Bits.{bits_none}
use Rattle.fields.specs.Steps.Seat.{map_more}
use Rattle.soundness.proofs.seat.map_of_rows.Goals as goal

pub loop-k-init : goal.loop-k-init
loop-k-init c = sym (bits_none _)

pub overflow_add-map : goal.overflow_add-map
overflow_add-map c =
    record { fits = (map_more _ (omega arith) (omega arith) c.loop-k.invariant c.from.ensures c.is_live.ensures).1 }

pub loop-k-preserved : goal.loop-k-preserved
loop-k-preserved c = (map_more _ (omega arith) (omega arith) c.loop-k.invariant c.from.ensures c.is_live.ensures).0
