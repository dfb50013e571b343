-- The writes, one after the other, are the update's. Assumes nothing.
use Rattle.std.proofs.Common.{arith}
use Rattle.fields.specs.Laws.Can.{number_small}
use Rattle.fields.specs.Steps.Update.{made_chain}
use Rattle.links.proofs.hang.make.Goals as goal

pub overflow_add-next : goal.overflow_add-next
overflow_add-next c = omega (arith, number_small)

pub returns : goal.returns
returns c =
    let next = c.last-next.ensures in
    made_chain c.args.suffix.now c.set_number.ensures c.set_owner.ensures
    c.set_size.ensures c.spell.ensures.1 c.set_last.ensures
    (omega (arith, next)) (omega (arith, next))
