-- While one is left it can be given, and then one more is. Assumes nothing.
use Rattle.serving.proofs.Turns.{none_given, can_give, one_given}
use Rattle.serving.proofs.serve.serve.Goals as goal

pub loop-init : goal.loop-init
loop-init c = none_given _ _ _ _ _

pub next-filled-requires : goal.next-filled-requires
next-filled-requires c = can_give c.loop.invariant c.requires c.loop-test.true

pub loop-preserved : goal.loop-preserved
loop-preserved c = one_given c.loop.invariant c.next-filled.ensures c.next-filled.auto.out
