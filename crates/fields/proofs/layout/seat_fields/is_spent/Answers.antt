-- The opens are compared with `most_opens`. Assumes nothing.
use Rattle.std.proofs.Common.{ap₂, eqb, sym}
use Rattle.fields.specs.Steps.Layout.{most_opens_lem}
use Rattle.fields.proofs.layout.seat_fields.is_spent.Goals as goal

pub returns : goal.returns
returns c = ap₂ eqb c.opens.ensures.0 (sym most_opens_lem)
