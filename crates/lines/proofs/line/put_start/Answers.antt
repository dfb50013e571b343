-- The letter, the number and the line feed, each where the one before it ends. Assumes nothing.
use Rattle.std.proofs.Common.{arith}
use Rattle.logs.specs.Laws.Bound.{length_number}
use Rattle.logs.specs.Laws.Lines.{wrote_start}
use Rattle.lines.proofs.line.put_start.Goals as goal

pub put-requires : goal.put-requires
put-requires c =
    omega (arith, c.requires, c.put-a.ensures.next, c.put_number-b.ensures.next, length_number c.args.n)

pub returns : goal.returns
returns c =
    wrote_start _ (omega (arith, c.requires)) c.put-a.ensures c.put_number-b.ensures
    c.put.ensures
