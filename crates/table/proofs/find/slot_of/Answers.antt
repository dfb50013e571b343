-- The chain asks each slot, and stops at the first that passes. Assumes nothing.
use Rattle.std.proofs.Common.{ap, refl, rules, sym, ◌∙◌}
use borrow.Author.Tests.{tests}
use Rattle.terms.specs.Base.{if_any}
use Rattle.fields.specs.Laws.Chains.{find_lowest}
use Rattle.fields.specs.Steps.Find.{slot_is}
use Rattle.table.proofs.find.slot_of.Goals as goal

pub returns : goal.returns
returns c =
    find_lowest _ 10 _ refl c.find.ensures.ran (λ x b q h. search (rules, tests)) ∙ ap if_any (sym (slot_is _ _ _))
