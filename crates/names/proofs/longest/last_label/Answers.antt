-- std's first place of a dot, from the end on, is how many bytes stand after the last dot. Assumes nothing.
use Rattle.std.proofs.Common.{eqb, rules, tests}
use Rattle.std.proofs.lemmas.Iterator.Adapters.{YieldsList-from_rev_slice}
use Rattle.std.proofs.lemmas.Iterator.Search.{position_from_yields_List}
use Rattle.terms.specs.Steps.Longest.{last_back}
use Rattle.names.proofs.longest.last_label.Goals as goal

pub returns : goal.returns
returns c =
    let s = c.args.s.now in
    last_back s c.position.result c.unwrap_or.result
    (position_from_yields_List (λ x. eqb x 46) _ _ c.position.result c.position.ensures.ran (YieldsList-from_rev_slice s cc)
    (λ x b q k. search (rules, tests)))
    c.unwrap_or.ensures
