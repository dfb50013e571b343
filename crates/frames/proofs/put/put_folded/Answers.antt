-- Each byte is folded. Assumes nothing.
use Rattle.std.proofs.Common.{rules, sym, ◌∙◌, ◌≡◌, ℕ, List, subst}
use borrow.Author.Tests.{tests}
use Rattle.std.specs.Char.{to_ascii_lowercase}
use Rattle.terms.specs.Names.{lower}
use Rattle.terms.specs.Steps.Fold.{lowered, folded_map}
use Rattle.rules.specs.Inner.{Put}
use Rattle.frames.proofs.put.put_folded.Goals as goal

pub returns : goal.returns
returns c =
    subst (λ (y : List ℕ). Put c.args.out.now c.args.at y c.put_made.new.out c.put_made.result) (sym (folded_map c.args.x.now))
    (c.put_made.ensures to_ascii_lowercase (λ b r h. let e : r ≡ lower b = search (rules, tests) in e ∙ lowered b))
