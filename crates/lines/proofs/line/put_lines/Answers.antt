-- The event's line, and where it ends the lines of its actions. Assumes nothing.
use Rattle.std.proofs.Common.{arith, length-take}
use Rattle.logs.specs.Laws.Bound.{length_event}
use Rattle.logs.specs.Laws.Lines.{wrote_lines}
use Rattle.lines.proofs.line.put_lines.Goals as goal

pub put_actions-requires : goal.put_actions-requires
put_actions-requires c =
    let event = length_event c.args.n c.number_in-number.result c.actions_in-actions.result in
    let part = length-take c.bytes_in-bytes.result c.args.room.now in
    let a = c.actions_in-actions.ensures in
    let b = c.bytes_in-bytes.ensures in (
      rw (a, b) c.requires.0.holds,
      omega (arith, a, b, c.requires.1, c.requires.0.inside, c.put_event-to.ensures.next, event, part),
    )

pub returns : goal.returns
returns c =
    wrote_lines c.args.n c.args.answer c.args.room.now c.number_in-number.ensures
    c.actions_in-actions.ensures c.bytes_in-bytes.ensures (omega (arith, c.requires.1))
    c.put_event-to.ensures c.put_actions.ensures
