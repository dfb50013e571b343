-- Past its end the folded name has no byte. Assumes nothing.
use Rattle.std.proofs.Common.{arith, sym}
use lib.ListN.{get_or-eq_default}
use Rattle.terms.specs.Names.{folded}
use Rattle.terms.specs.Laws.Fold.{length_folded}
use Rattle.letters.proofs.spell.letter_of.Goals as goal

pub returns-else-j-name : goal.returns-else-j-name
returns-else-j-name c =
    let s = c.args.name.now in
    sym (get_or-eq_default (folded s) 0 (omega (arith, length_folded s)))
