-- `run::run`: what each turn leaves leads on, or the loop is left behind it; the room takes its text, and what is unread lies in
-- the buffer.
use Rattle.std.proofs.Common.{sym, arith, length-take-le}
use Rattle.reader.specs.Laws.Past.{outset_is}
use Rattle.asksuffix.specs.Laws.Run.{running_first, under_turn, running_next, ran_last}
use Rattle.asksuffix.proofs.run.run.Goals as goal

pub loop-init : goal.loop-init
loop-init g c = rw (outset_is _ c.default-p.ensures) (running_first _ _ _)

pub slice_bounds-put_out-end : goal.slice_bounds-put_out-end
slice_bounds-put_out-end g c =
    let a = under_turn c.loop.invariant.under c.requires c.turn-p.ensures in omega (arith, a.fits, c.turn-p.auto.out)

pub slice_bounds-put_out-end-in-loop : goal.slice_bounds-put_out-end-in-loop
slice_bounds-put_out-end-in-loop g c =
    let a = under_turn c.loop.invariant.under c.requires c.turn-p.ensures in
    sym (length-take-le c.turn-p.result.filled c.turn-p.new.out (omega (arith, a.fits, c.turn-p.auto.out)))

pub returns-then-is_err : goal.returns-then-is_err
returns-then-is_err g c = ran_last c.loop.invariant c.turn-p.ensures

pub held-requires : goal.held-requires
held-requires g c =
    let a = under_turn c.loop.invariant.under c.requires c.turn-p.ensures in
    record { ahead = a.sound.ahead; inside = omega (arith, a.sound.inside, c.turn-p.auto.buf) }

pub returns-then-p : goal.returns-then-p
returns-then-p g c = ran_last c.loop.invariant c.turn-p.ensures

pub loop-preserved : goal.loop-preserved
loop-preserved g c =
    running_next c.loop.invariant c.requires c.turn-p.ensures c.turn-p.auto.buf c.turn-p.auto.out c.if-p.false
