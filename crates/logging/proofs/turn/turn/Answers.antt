-- `turn::turn`: what is ready was given, or the buffer was filled up.
use Rattle.std.proofs.Common.{◌≡◌, true, arith}
use Rattle.std.proofs.lemmas.Bool.{not-true, not-false}
use Rattle.logging.specs.Laws.Turn.{turn_read, place_inside, turn_gave}
use Rattle.logging.proofs.turn.turn.Goals as goal
use Rattle.logging.proofs.turn.turn.Goals.{else-given-eq0-via-then-given-eq0+else-not-given, else-given-eq0-via-else-given-eq0}

pub returns-then-not-given : goal.returns-then-not-given
returns-then-not-given g c =
    turn_read c.args.buf.now c.args.p c.held.ensures c.give_ready-given.ensures c.if-given-eq0.true
    (not-true _ c.if-not-given.true) c.refill.ensures

pub moved-requires : goal.moved-requires
moved-requires g c =
    let h = place_inside c.args.buf.now c.args.p c.held.ensures c.give_ready-given.ensures c.requires.0 in
    let fits = c.requires.0.inside in
    omega (arith, h, fits)

pub returns : goal.returns
returns g c =
    let pre = c.requires in
    let given = c.give_ready-given in
    let some : given.result.ready.count ≡ 0 → given.result.ready.last ≡ true =
    elim c.else-given-eq0.branch [
      | else-given-eq0-via-then-given-eq0+else-not-given w ↦ λ _. not-false _ w.if-not-given.false
      | else-given-eq0-via-else-given-eq0 w ↦ λ e. absurd (w.if-given-eq0.false e)
    ] in
    turn_gave c.args.buf.now c.args.p c.held.ensures given.ensures pre.0 pre.1.roomy some c.moved.ensures
