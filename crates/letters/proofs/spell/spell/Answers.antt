-- The loop keeps: the first j of the row's 64 bytes are the folded name's, zeros after its end. Each turn writes
-- one more. Assumes nothing.
use Rattle.terms.specs.Names.{folded}
use Rattle.fields.specs.Steps.Names.{spelled_none, spelled_more}
use Rattle.letters.proofs.spell.spell.Goals as goal

pub loop-j-init : goal.loop-j-init
loop-j-init c =
    let a = c.args in
    (c.requires.long, spelled_none a.t.now a.p (folded a.name.now))

pub loop-j-preserved : goal.loop-j-preserved
loop-j-preserved c =
    let a = c.args in
    let loop = c.loop-j in
    let w = c.set_letter.ensures in
    (w.long, spelled_more a.t.now a.p (folded a.name.now) loop.j loop.invariant.1 c.letter_of.ensures w)
