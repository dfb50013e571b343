-- The loop keeps: the bytes before this one are written, two digits each, and the rest of the room stays. Assumes nothing.
use Rattle.logs.specs.Laws.Hex.{Hexed}
use Rattle.lines.proofs.text.put_hex.Given as goal

abbrev pub invariant-loop-b : goal.invariant-loop-b
invariant-loop-b l = Hexed l.initial.out l.at l.x l.out l.to l.b-index
