-- The byte is written where the field lies. Assumes nothing.
use Rattle.std.proofs.Common.{arith, refl}
use Rattle.fields.specs.Steps.Layout.{wrote_byte, tenant_lies}
use Rattle.fields.proofs.layout.seat_fields.set_tenant.Goals as goal

pub returns : goal.returns
returns c =
    let lies = tenant_lies c.requires.seat c.seat_at.ensures.0 in
    wrote_byte c.requires.long lies (omega arith) refl
