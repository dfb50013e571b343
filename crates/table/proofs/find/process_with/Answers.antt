-- The chain asks each row, and stops at the first that passes. Assumes nothing.
use Rattle.std.proofs.Common.{ap, refl, rules, sym, ◌∙◌}
use borrow.Author.Tests.{tests}
use Rattle.terms.specs.Base.{if_any}
use Rattle.fields.specs.Table.{view}
use Rattle.fields.specs.Inner.{row_with}
use Rattle.fields.specs.Laws.Lowest.{any_in}
use Rattle.fields.specs.Laws.Chains.{find_lowest}
use Rattle.fields.specs.Steps.Find.{process_with_is}
use Rattle.table.proofs.find.process_with.Goals as goal

pub returns : goal.returns
returns c =
    let e = find_lowest _ 80 (λ p. row_with (view c.args.t.now) c.args.o c.args.suffix.now p) refl c.find.ensures.ran (λ x b q h. search (rules, tests)) in
    record { found = e ∙ ap if_any (sym (process_with_is _ _ _)); there = any_in 80 _ _ e }
