-- The writes, one after the other, are the update's. Assumes nothing.
use Rattle.std.proofs.Common.{arith}
use Rattle.fields.specs.Steps.Update.{unhung_chain}
use Rattle.links.proofs.hang.unhang.Goals as goal

pub returns : goal.returns
returns c =
    let mapped = c.slots-map.ensures in
    let bit = c.bit_of.ensures in
    let counted = c.tabs-count.ensures in
    unhung_chain c.set_serial.ensures c.set_row.ensures c.set_waiting.ensures
    c.set_selected.ensures c.set_slots.ensures c.set_tabs.ensures
    (omega (arith, mapped, bit)) (omega (arith, counted))
