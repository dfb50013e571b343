-- The chain asks each slot. Assumes nothing.
use Rattle.std.proofs.Common.{rules, refl}
use borrow.Author.Tests.{tests}
use Rattle.fields.specs.Laws.Chains.{all_each}
use Rattle.soundness.proofs.seat.are_tabs_empty.Goals as goal

pub returns : goal.returns
returns c = all_each _ _ _ refl c.all.ensures.ran (λ x b q h. search (rules, tests))
