-- A name that is listed, and is not before the last one, is passed. Assumes nothing.
use Rattle.std.proofs.Common.{arith, sym, ◌∙◌}
use Rattle.terms.specs.Steps.Listed.{chain_passed, not_before}
use Rattle.names.proofs.listed.are_sound.Goals as goal

pub loop-preserved : goal.loop-preserved
loop-preserved c =
    let a = c.args in
    let n = c.in-Some.n.now in
    c.loop.invariant
    ∙ chain_passed a.b.now a.until c.loop.last.now n c.loop.at c.loop.counter a.count (omega arith) c.requires c.in-Some.ensures.0
    c.in-Some.ensures.1 (sym c.is_listed.ensures ∙ c.if-not-is_listed.false)
    (sym (not_before n c.loop.last.now c.le.result c.le.ensures) ∙ c.if-le.false)
