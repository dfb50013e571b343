-- The chain asks each row, and stops at the first that passes. Assumes nothing.
use Rattle.std.proofs.Common.{ap, not, refl, rules, sym, ◌∙◌}
use borrow.Author.Tests.{tests}
use Rattle.terms.specs.Base.{if_any}
use Rattle.fields.specs.Table.{used, view}
use Rattle.fields.specs.Laws.Lowest.{any_in}
use Rattle.fields.specs.Laws.Chains.{find_lowest}
use Rattle.fields.specs.Steps.Find.{free_process_is}
use Rattle.table.proofs.find.free_process.Goals as goal

pub returns : goal.returns
returns c =
    let e = find_lowest _ 80 (λ p. not (used (view c.args.t.now) p)) refl c.find.ensures.ran (λ x b q h. search (rules, tests)) in
    record { found = e ∙ ap if_any (sym (free_process_is _)); there = any_in 80 _ _ e }
