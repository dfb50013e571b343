-- The chain asks each row, all below which are good. Assumes nothing.
use Rattle.std.proofs.Common.{refl, rules}
use borrow.Author.Tests.{tests}
use Rattle.fields.specs.Table.{view}
use Rattle.fields.specs.Inner.{row_good}
use Rattle.fields.specs.Laws.Chains.{all_each, may_each}
use Rattle.fields.specs.Steps.Count.{pointing_is}
use Rattle.soundness.proofs.row.are_rows_good.Goals as goal

pub all-requires-clause-callable : goal.all-requires-clause-callable
all-requires-clause-callable c =
    may_each 80 (λ p. row_good (view c.args.t.now) p) (λ x b q h. search (rules, tests)) refl
    (λ x i w. let low = i.low in let high = i.high in search (rules, tests, pointing_is))

pub returns : goal.returns
returns c = all_each _ _ _ refl c.all.ensures.ran (λ x b q h. search (rules, tests))
