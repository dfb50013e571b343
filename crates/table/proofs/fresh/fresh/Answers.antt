-- The table is wiped, and then has seats 1 to n as ordered. Assumes nothing.
use Rattle.std.proofs.Common.{ap, arith, ◌∙◌, ◌≡◌}
use Rattle.fields.specs.Inner.{ordered}
use Rattle.fields.specs.Steps.Update.{ordered_none, fresh_is}
use Rattle.table.proofs.fresh.fresh.Goals as goal

pub loop-n-init : goal.loop-n-init
loop-n-init c =
    (c.wipe.ensures.0, ordered_none c.args.book.now c.wipe.ensures.1)

pub returns : goal.returns
returns c =
    let inv = c.loop-n.invariant in
    let e : c.loop-n.n ≡ 8 = omega arith in
    inv.1 ∙ ap (ordered c.args.book.now) e ∙ fresh_is c.args.book.now
