-- The number is written where the field lies. Assumes nothing.
use Rattle.std.proofs.Common.{arith}
use Rattle.fields.specs.Steps.Layout.{wrote, opens_lies, most_opens_lem}
use Rattle.fields.proofs.layout.seat_fields.set_opens.Goals as goal

pub put_num-requires : goal.put_num-requires
put_num-requires c = omega (arith, c, most_opens_lem)

pub returns : goal.returns
returns c =
    let lies = opens_lies c.requires.0.seat c.seat_at.ensures.0 in
    wrote c.requires.0.long lies c.put_num.ensures
