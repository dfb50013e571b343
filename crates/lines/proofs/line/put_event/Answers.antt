-- The letter, the three numbers and the line feed, each where the one before it ends. Assumes nothing.
use Rattle.std.proofs.Common.{[], ◌∷◌, arith}
use Rattle.logs.specs.Laws.Bound.{length_numbers}
use Rattle.logs.specs.Laws.Lines.{wrote_event}
use Rattle.lines.proofs.line.put_event.Goals as goal

pub put-requires : goal.put-requires
put-requires c =
    let short = length_numbers (c.args.n ∷ c.args.answer ∷ c.args.actions ∷ []) in
    omega (arith, c.requires, c.put-a.ensures.next, c.put_numbers-b.ensures.next, short)

pub returns : goal.returns
returns c =
    wrote_event c.args.n c.args.answer c.args.actions (omega (arith, c.requires)) c.put-a.ensures
    c.put_numbers-b.ensures c.put.ensures
