-- The ten bytes, and then the payload's three parts, each where the one before it ends. Assumes nothing.
use Rattle.std.proofs.Common.{arith}
use Rattle.terms.specs.Laws.Fold.{length_folded}
use Rattle.rules.proofs.Steps.Send.{send_one}
use Rattle.frames.proofs.send.send.Goals as goal

pub put-requires : goal.put-requires
put-requires c =
    let a = c.put-a.ensures in
    let b = c.put-b.ensures in
    let d = c.put_folded-c.ensures in
    omega
    (arith, c.requires.room, a.next, a.same, b.next, b.same, d.next, d.same, length_folded c.args.name.now)

pub returns : goal.returns
returns c =
    send_one c.args.name.now c.put-a.ensures c.put-b.ensures c.put_folded-c.ensures c.put.ensures
    c.requires c.head_of-h.ensures
