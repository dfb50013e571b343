-- `turn::answer`: the host stands behind its length, and all of it is there.
use Rattle.std.proofs.Common.{arith}
use Rattle.asksuffix.specs.Laws.Hosts.{bytes_two, whole_has}
use Rattle.asksuffix.specs.Laws.Turn.{host_is, gave_is}
use Rattle.asksuffix.proofs.turn.answer.Goals as goal

pub host_bytes-size-requires : goal.host_bytes-size-requires
host_bytes-size-requires c = (whole_has c.args.held.now c.requires.whole).long

pub slice_bounds-put_answer-count : goal.slice_bounds-put_answer-count
slice_bounds-put_answer-count c = omega (arith, bytes_two c.args.held.now, c.host_bytes-size.ensures.0)

pub slice_bounds-put_answer-start : goal.slice_bounds-put_answer-start
slice_bounds-put_answer-start c = omega (arith, bytes_two c.args.held.now, c.host_bytes-size.ensures.0)

pub slice_bounds-put_answer-end : goal.slice_bounds-put_answer-end
slice_bounds-put_answer-end c =
    let w = whole_has c.args.held.now c.requires.whole in omega (arith, w.present, c.host_bytes-size.ensures.0)

pub overflow_add-result : goal.overflow_add-result
overflow_add-result c =
    let w = whole_has c.args.held.now c.requires.whole in
    let i = c.requires.inside in
    omega (arith, w.present, c.host_bytes-size.ensures.0)

pub returns : goal.returns
returns c =
    let told = c.host_bytes-size.ensures in
    gave_is told.0 (host_is c.args.held.now told.0) c.put_answer-filled.ensures
