-- The loop keeps: so many events are given. Assumes nothing.
use Rattle.serving.proofs.Turns.{Given}
use Rattle.serving.proofs.serve.serve.Given as goal

abbrev pub invariant-loop : goal.invariant-loop
invariant-loop l = Given l.stream l.initial.table l.book l.initial.out l.number l.counter l.table l.out l.cursor l.filled
