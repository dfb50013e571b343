-- A free slot shares no serial. Of a live one the chain asks each slot below. Assumes nothing.
use Rattle.std.proofs.Common.{ap, not, rules, sym, ◌∙◌}
use borrow.Author.Tests.{tests}
use Rattle.fields.specs.Laws.Chains.{all_each, up_to}
use Rattle.fields.specs.Steps.Tab.{free_new}
use Rattle.soundness.proofs.tab.is_serial_new.Goals as goal

pub returns-then-not-is_live : goal.returns-then-not-is_live
returns-then-not-is_live c =
    let free = c.if-not-is_live.true in
    ap not free ∙ sym (free_new _ _ _ (sym c.is_live.ensures ∙ free))

pub returns-else-not-is_live : goal.returns-else-not-is_live
returns-else-not-is_live c =
    all_each _ _ _ (up_to c.requires.slot.low) c.all.ensures.ran (λ x b q h. search (rules, tests))
