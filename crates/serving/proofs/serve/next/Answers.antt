-- `serve::next`: what the step and the lines say of the event at the cursor makes one event given.
use Rattle.std.proofs.Common.{arith, refl}
use Rattle.logs.specs.Laws.Give.{event_is, gave_held, gave_room, gave_one}
use Rattle.serving.proofs.serve.next.Goals as goal

pub put_lines-requires : goal.put_lines-requires
put_lines-requires c =
    let w = c.stewlattice_step-answer.ensures in
    (gave_held _ _ _ refl w, gave_room _ _ _ refl w c.requires)

pub returns : goal.returns
returns c =
    let s = c.args.stream.now in
    let n = c.first_bytes.ensures.0 in
    let event = event_is s c.args.c.now.place c.first_bytes.result n in
    gave_one _ _ _ refl c.stewlattice_step-answer.ensures event n (omega arith) (omega arith)
    c.put_lines.ensures
