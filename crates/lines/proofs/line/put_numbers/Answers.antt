-- The loop keeps: the numbers before this one are written, and the rest of the room stays. Assumes nothing.
use Rattle.std.proofs.Common.{arith}
use Rattle.logs.specs.Laws.Lines.{numbered_none, numbered_at, numbered_more, numbered_all}
use Rattle.lines.proofs.line.put_numbers.Goals as goal

pub loop-n-init : goal.loop-n-init
loop-n-init c = numbered_none _ _ _

pub put_number-to-requires : goal.put_number-to-requires
put_number-to-requires c = numbered_at c.loop-n.invariant c.requires c.loop-n-test.true

pub loop-n-preserved : goal.loop-n-preserved
loop-n-preserved c =
    numbered_more c.loop-n.invariant (omega (arith, c.requires)) c.loop-n-test.true c.put_number-to.ensures c.put_number-to.auto.out

pub returns : goal.returns
returns c = numbered_all c.loop-n.invariant (omega arith)
