-- std's test is `same`. Assumes nothing.
use Rattle.terms.specs.Steps.Fold.{same_lower}
use Rattle.terms.proofs.fold.is_same.Goals as goal

pub returns : goal.returns
returns c = same_lower _ _ _ c.eq_ignore_ascii_case.ensures.test
