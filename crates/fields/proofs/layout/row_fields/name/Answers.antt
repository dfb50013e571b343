-- The part has the bytes of the row that its name length counts, and no more than all 64. Assumes nothing.
use Rattle.fields.specs.Steps.Names.{name_is}
use Rattle.fields.proofs.layout.row_fields.name.Goals as goal

pub returns : goal.returns
returns c = name_is c.requires c.row_at-from.ensures.0 _ _ c.size.ensures.0 c.min-n.ensures
