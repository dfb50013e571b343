-- Each turn writes one byte more. Assumes nothing.
use Rattle.std.proofs.Common.{arith, sym, ◌∙◌}
use Rattle.std.proofs.lemmas.List.{get_or-map, length-map}
use Rattle.rules.proofs.Steps.Put.{written_none, written_more}
use Rattle.frames.proofs.put.put_made.Goals as goal

pub loop-j-init : goal.loop-j-init
loop-j-init g c = λ meant told. written_none _ _ _

pub loop-j-preserved : goal.loop-j-preserved
loop-j-preserved g c =
    λ meant told.
    let x = c.args.x.now in
    let t = c.loop-j-test.true in
    let n = length-map x meant in
    let r = c.requires.0 in
    written_more (omega (arith, n, r)) (omega (arith, n, t)) (c.loop-j.invariant meant told)
    (told _ _ c.make.ensures ∙ sym (get_or-map meant x c.loop-j.j 0 0 t))
