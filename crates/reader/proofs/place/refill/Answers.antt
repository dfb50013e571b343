-- `place::refill`: the rest is moved, and a read goes behind it.
use Rattle.reader.specs.Laws.Fill.{filled_is}
use Rattle.reader.proofs.place.refill.Goals as goal

pub returns : goal.returns
returns g c =
    let start = c.args in
    filled_is start.buf.now c.shift.new.buf c.fill-got.new.buf start.p c.fill-got.result c.requires c.shift.ensures
    c.shift.auto.buf c.fill-got.ensures.0 c.fill-got.ensures.1 c.fill-got.auto.buf
