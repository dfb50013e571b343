-- std's test of each byte is that of `is_folded`. Assumes nothing.
use Rattle.std.proofs.Common.{eqb, rules, sym, tests, ◌∙◌}
use Rattle.std.proofs.lemmas.Iterator.{YieldsList-from_slice}
use Rattle.std.proofs.lemmas.Iterator.Search.{all_from_yields_List}
use Rattle.terms.specs.Names.{lower}
use Rattle.terms.specs.Steps.Fold.{folded_all}
use Rattle.terms.proofs.fold.is_folded.Goals as goal

pub returns : goal.returns
returns c =
    let s = c.args.s.now in
    all_from_yields_List (λ x. eqb (lower x) x) _ _ c.all.result c.all.ensures.ran (YieldsList-from_slice s cc)
    (λ x b q k. search (rules, tests))
    ∙ sym (folded_all s)
