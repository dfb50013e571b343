-- The loop is a search of the names. Assumes nothing.
use Rattle.terms.specs.Steps.Longest.{Searching}
use Rattle.names.proofs.longest.public_of.Given as goal

abbrev pub invariant-loop : goal.invariant-loop
invariant-loop l = Searching l.h l.b l.best l.at l.counter l.end
