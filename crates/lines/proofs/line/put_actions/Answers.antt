-- The loop keeps: what is written, followed by the lines of the frames that are left, is all of them. Assumes nothing.
use Rattle.std.proofs.Common.{arith}
use Rattle.logs.specs.Laws.Actions.{going_none, going_next, going_more, going_all}
use Rattle.lines.proofs.line.put_actions.Goals as goal

pub loop-init : goal.loop-init
loop-init c = going_none _ _ _ _ _ (omega arith) c.requires.0 c.requires.1

pub put_action-to-requires : goal.put_action-to-requires
put_action-to-requires c = going_next c.loop.invariant (omega (arith, c.loop-test.true))

pub num_at-requires-clause-inside : goal.num_at-requires-clause-inside
num_at-requires-clause-inside c =
    let next = going_next c.loop.invariant (omega (arith, c.loop-test.true)) in omega (arith, next.0)

pub loop-preserved : goal.loop-preserved
loop-preserved c =
    going_more c.loop.invariant (omega (arith, c.loop-test.true)) c.put_action-to.ensures c.put_action-to.auto.out c.num_at.ensures.number

pub returns : goal.returns
returns c = going_all c.loop.invariant (omega (arith, c.loop-test.false))
