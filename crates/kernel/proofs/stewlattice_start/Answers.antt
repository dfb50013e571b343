-- The length first, and then the book. Assumes nothing.
use Rattle.std.proofs.Common.{rules}
use Rattle.rules.proofs.Steps.Step.{start_long, start_book, start_done}
use Rattle.kernel.proofs.stewlattice_start.Goals as goal

pub returns-then-not-is_long : goal.returns-then-not-is_long
returns-then-not-is_long c = search (rules, start_long)

pub returns-then-not-is_sound : goal.returns-then-not-is_sound
returns-then-not-is_sound c = search (rules, start_book)

pub returns : goal.returns
returns c = search (rules, start_done)
