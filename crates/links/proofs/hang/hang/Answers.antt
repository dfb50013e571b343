-- The seven writes, one after the other, are the update's; what they add to fits by the `requires`. Assumes nothing.
use Rattle.std.proofs.Common.{arith}
use Rattle.fields.specs.Laws.Can.{most_small}
use Rattle.fields.specs.Steps.Update.{hung_chain}
use Rattle.links.proofs.hang.hang.Goals as goal

pub overflow_add-next : goal.overflow_add-next
overflow_add-next c = omega (arith, most_small)

pub returns : goal.returns
returns c =
    let a1 = c.set_tabs.ensures in
    let a2 = c.set_slots.ensures in
    let a3 = c.set_opens.ensures in
    let a4 = c.set_selected.ensures in
    let a5 = c.set_waiting.ensures in
    let a6 = c.set_row.ensures in
    let a7 = c.set_serial.ensures in
    let opened = c.opens-next.ensures in
    let mapped = c.slots.ensures in
    let bit = c.bit_of.ensures in
    let counted = c.tabs-count.ensures in
    hung_chain a7 a6 a5 a4 a3 a2 a1 (omega (arith, opened)) (omega (arith, opened)) (omega (arith, mapped, bit))
    (omega (arith, counted))
