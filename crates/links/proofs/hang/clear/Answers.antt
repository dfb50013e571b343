-- The writes, one after the other, are the update's; the name written is empty. Assumes nothing.
use Rattle.std.proofs.Common.{refl}
use Rattle.fields.specs.Steps.Update.{cleared_chain}
use Rattle.links.proofs.hang.clear.Goals as goal

pub returns : goal.returns
returns c =
    cleared_chain c.set_number.ensures c.set_owner.ensures c.set_tabs.ensures
    c.set_size.ensures refl c.spell.ensures.0 c.spell.ensures.1
