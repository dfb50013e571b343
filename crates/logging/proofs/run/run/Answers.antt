-- `run::run`: what each turn leaves leads on, or the loop is left behind it.
use Rattle.reader.specs.Laws.Past.{outset_is}
use Rattle.logging.specs.Laws.Run.{running_first, running_next, ran_last}
use Rattle.logging.proofs.run.run.Goals as goal

pub loop-init : goal.loop-init
loop-init g c = rw (outset_is _ c.default-p.ensures) (running_first _ _ _ _)

pub loop-preserved : goal.loop-preserved
loop-preserved g c =
    running_next c.loop.invariant c.turn-p.ensures c.turn-p.auto.buf c.turn-p.auto.out c.if-p.false

pub returns-then-is_err : goal.returns-then-is_err
returns-then-is_err g c = ran_last c.loop.invariant c.turn-p.ensures
