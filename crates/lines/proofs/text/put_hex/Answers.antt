-- The loop keeps: the bytes before this one are written, two digits each, and the rest of the room stays. Assumes nothing.
use Rattle.std.proofs.Common.{arith}
use Rattle.logs.specs.Laws.Hex.{hexed_none, hexed_at, hexed_more, hexed_all}
use Rattle.lines.proofs.text.put_hex.Goals as goal

pub loop-b-init : goal.loop-b-init
loop-b-init c = hexed_none _ _ _

pub put-to-requires : goal.put-to-requires
put-to-requires c =
    let e = hexed_at c.loop-b.invariant in
    let same = c.loop-b.invariant.same in
    omega (arith, c.requires)

pub put-to-requires-in-loop-b : goal.put-to-requires-in-loop-b
put-to-requires-in-loop-b c =
    let e = hexed_at c.loop-b.invariant in
    let same = c.loop-b.invariant.same in
    omega (arith, c.requires, c.put-to.ensures.next, c.put-to.auto.out)

pub loop-b-preserved : goal.loop-b-preserved
loop-b-preserved c =
    hexed_more c.requires c.loop-b-test.true c.loop-b.invariant c.hex_digit.ensures c.hex_digit-in-loop-b.ensures
    c.put-to.ensures c.put-to.auto.out c.put-to-in-loop-b.ensures c.put-to-in-loop-b.auto.out

pub returns : goal.returns
returns c = hexed_all (omega arith) c.loop-b.invariant
