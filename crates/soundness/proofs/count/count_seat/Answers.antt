-- The loop keeps: the seats below are counted, and the slots below k of this one. A live tab points at a row that is there, and no
-- count passes 80. Assumes nothing.
use Rattle.std.proofs.Common.{arith}
use Rattle.fields.specs.Laws.Each.{range}
use Rattle.fields.specs.Steps.Count.{row_there, counting_none, counting_fits, counting_free, counting_live, counting_done}
use Rattle.soundness.proofs.count.count_seat.Goals as goal
use Rattle.soundness.proofs.count.count_seat.Goals.{then-is_live, else-is_live}

pub loop-k-init : goal.loop-k-init
loop-k-init c = counting_none _ _ c.requires.2

pub bounds-counts-row : goal.bounds-counts-row
bounds-counts-row c =
    let there = row_there c.args.t.now _ _ _ c.requires.1 (range (omega arith) (omega arith)) c.is_live.ensures
    c.if-is_live.true c.row.ensures.0 in
    let high = there.high in
    omega arith

pub overflow_add-counts : goal.overflow_add-counts
overflow_add-counts c =
    let there = row_there c.args.t.now _ _ _ c.requires.1 (range (omega arith) (omega arith)) c.is_live.ensures
    c.if-is_live.true c.row.ensures.0 in
    record { fits = counting_fits _ _ c.loop-k.invariant there c.requires.0.seat.high (omega arith) }

pub bounds-counts-row-then-is_live : goal.bounds-counts-row-then-is_live
bounds-counts-row-then-is_live c =
    let there = row_there c.args.t.now _ _ _ c.requires.1 (range (omega arith) (omega arith)) c.is_live.ensures
    c.if-is_live.true c.row.ensures.0 in
    let high = there.high in
    omega arith

pub loop-k-preserved : goal.loop-k-preserved
loop-k-preserved c =
    let l = c.loop-k in
    elim c.if-is_live.branch [
      | then-is_live w ↦
          let there = row_there c.args.t.now _ _ _ c.requires.1 (range (omega arith) (omega arith)) c.is_live.ensures
          w.if-is_live.true w.row.ensures.0 in
          rw w.counts-is
          (counting_live _ _ (omega arith) l.invariant c.is_live.ensures w.if-is_live.true w.row.ensures.0 there)
      | else-is_live w ↦
          rw w.counts-is (counting_free _ _ (omega arith) l.invariant c.is_live.ensures w.if-is_live.false)
    ]

pub returns : goal.returns
returns c = counting_done _ _ c.requires.0.seat (omega arith) c.loop-k.invariant
