-- The loop keeps: n is the sum of the opens of the seats below s, which the machine can count. Assumes nothing.
use Rattle.std.proofs.Common.{arith, sym}
use Rattle.fields.specs.Laws.Sum.{sum_none, sum_next}
use Rattle.fields.specs.Laws.Can.{most_small}
use Rattle.soundness.proofs.seat.sum_of_opens.Goals as goal

pub loop-s-init : goal.loop-s-init
loop-s-init c = (sym (sum_none _), omega arith)

pub overflow_add-n : goal.overflow_add-n
overflow_add-n c = omega (arith, most_small)

pub loop-s-preserved : goal.loop-s-preserved
loop-s-preserved c =
    (sum_next _ (omega arith) c.loop-s.invariant.0 c.opens-n.ensures.0, omega (arith, c.opens-n.ensures.1, most_small))
