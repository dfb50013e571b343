-- The chain asks each row below, which is good. Assumes nothing.
use Rattle.std.proofs.Common.{not, rules}
use borrow.Author.Tests.{tests}
use Rattle.fields.specs.Table.{view}
use Rattle.fields.specs.Inner.{clash}
use Rattle.fields.specs.Laws.Each.{each_at}
use Rattle.fields.specs.Laws.Chains.{all_each, may_each, up_to}
use Rattle.soundness.proofs.row.is_row_new.Goals as goal

pub all-requires-clause-callable : goal.all-requires-clause-callable
all-requires-clause-callable c =
    may_each _ (λ q. not (clash (view c.args.t.now) q c.args.p)) (λ x b q h. search (rules, tests)) (up_to c.requires.0.row.low)
    (λ x i w. let good = each_at _ _ _ c.requires.2 i in let low = i.low in let high = i.high in search (rules, tests))

pub returns : goal.returns
returns c =
    all_each _ _ _ (up_to c.requires.0.row.low) c.all.ensures.ran (λ x b q h. search (rules, tests))
