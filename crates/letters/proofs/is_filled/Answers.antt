-- The letters that are asked are those of the fill. Assumes nothing.
use Rattle.std.proofs.Common.{eqb, rules, sym, ◌∙◌, leb, ◌||◌, ap, ℕ}
use borrow.Author.Tests.{tests}
use Rattle.fields.specs.Base.{each}
use Rattle.fields.specs.Table.{view, letter}
use Rattle.fields.specs.Steps.Row.{fill_is}
use Rattle.letters.proofs.is_filled.Goals as goal

pub returns : goal.returns
returns c =
    let v = view c.args.t.now in
    let p = c.args.p in
    c.is_each_after.ensures (λ j. eqb (v (letter p j)) 0) (λ j r i h. search (rules, tests))
    ∙ ap (λ (n : ℕ). each 64 (λ j. leb j n || eqb (v (letter p j)) 0)) c.size.ensures.0
    ∙ sym (fill_is v p)
