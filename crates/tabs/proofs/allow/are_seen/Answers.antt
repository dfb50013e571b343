-- std's test of each byte is the rule's. Assumes nothing.
use Rattle.std.proofs.Common.{rules, sym, tests, ◌∙◌}
use Rattle.std.proofs.lemmas.Iterator.{YieldsList-from_slice}
use Rattle.std.proofs.lemmas.Iterator.Search.{all_from_yields_List}
use Rattle.terms.specs.Base.{within}
use Rattle.rules.proofs.Steps.Allow.{seen_is}
use Rattle.tabs.proofs.allow.are_seen.Goals as goal

pub returns : goal.returns
returns c =
    let u = c.args.u.now in
    all_from_yields_List (λ x. within 33 126 x) _ _ c.all.result c.all.ensures.ran (YieldsList-from_slice u cc)
    (λ x b q k. search (rules, tests))
    ∙ sym (seen_is u)
