-- Every letter is asked. Assumes nothing.
use Rattle.std.proofs.Common.{eqb, rules, ◌∙◌}
use borrow.Author.Tests.{tests}
use Rattle.fields.specs.Table.{view, letter}
use Rattle.fields.specs.Laws.Each.{after_none}
use Rattle.letters.proofs.are_same.Goals as goal

pub returns : goal.returns
returns c =
    let v = view c.args.t.now in
    c.is_each_after.ensures (λ j. eqb (v (letter c.args.q j)) (v (letter c.args.p j))) (λ j r i h. search (rules, tests))
    ∙ after_none 64 _
