-- The byte is written where the field lies. Assumes nothing.
use Rattle.std.proofs.Common.{arith, refl}
use Rattle.fields.specs.Steps.Layout.{wrote_byte, waiting_lies}
use Rattle.fields.proofs.layout.tab_fields.set_waiting.Goals as goal

pub returns : goal.returns
returns c =
    let lies = waiting_lies c.requires.0.seat c.requires.0.slot c.tab_at.ensures.0 in
    wrote_byte c.requires.0.long lies (omega arith) refl
