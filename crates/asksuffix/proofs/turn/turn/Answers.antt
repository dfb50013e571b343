-- `turn::turn`: a whole host was answered, or the stream had ended, or the buffer was filled up.
use Rattle.asksuffix.specs.Laws.Turn.{turn_answered, turn_stopped, turn_read}
use Rattle.asksuffix.proofs.turn.turn.Goals as goal

pub returns-then-is_whole : goal.returns-then-is_whole
returns-then-is_whole g c =
    let told = rw c.held-held.ensures at c.is_whole.ensures in
    turn_answered _ _ _ c.args.p c.requires.0 told.0 c.if-is_whole.true (rw c.held-held.ensures at c.answer.ensures)

pub returns-then-p : goal.returns-then-p
returns-then-p g c =
    let told = rw c.held-held.ensures at c.is_whole.ensures in
    turn_stopped _ _ _ c.args.p told.0 c.if-is_whole.false c.if-p.true c.stop.ensures

pub returns : goal.returns
returns g c =
    let told = rw c.held-held.ensures at c.is_whole.ensures in
    turn_read _ _ _ c.args.p told.0 told.1 c.if-is_whole.false c.if-p.false c.refill.ensures
