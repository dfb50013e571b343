-- The loop keeps: the tabs of the seats below s are counted. Assumes nothing.
use Rattle.std.proofs.Common.{arith}
use Rattle.fields.specs.Laws.Each.{range, each_at}
use Rattle.fields.specs.Steps.Count.{counts_none, counts_next, counts_done}
use Rattle.soundness.proofs.count.count_tabs.Goals as goal

pub loop-s-init : goal.loop-s-init
loop-s-init c = counts_none _

pub count_seat-requires : goal.count_seat-requires
count_seat-requires c =
    let l = c.loop-s in (
      record { long = c.requires.0; seat = range (omega arith) (omega arith) },
      each_at _ _ _ c.requires.1 (range (omega arith) (omega arith)),
      l.invariant,
    )

pub loop-s-preserved : goal.loop-s-preserved
loop-s-preserved c = counts_next _ c.count_seat.ensures

pub returns : goal.returns
returns c = counts_done _ (omega arith) c.loop-s.invariant
