-- Each byte is made as it is. Assumes nothing.
use Rattle.std.proofs.Common.{rules, ℕ, List, subst}
use borrow.Author.Tests.{tests}
use Rattle.std.proofs.lemmas.List.{map-id}
use Rattle.rules.specs.Inner.{Put}
use Rattle.frames.proofs.put.put.Goals as goal

pub returns : goal.returns
returns c =
    subst (λ (y : List ℕ). Put c.args.out.now c.args.at y c.put_made.new.out c.put_made.result) (map-id c.args.x.now)
    (c.put_made.ensures (λ b. b) (λ b r h. search (rules, tests)))
