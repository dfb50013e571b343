-- A serial and a process number are left, the suffix has at most 64 bytes, and the room is enough for four frames. Assumes
-- nothing.
use Rattle.std.proofs.Common.{ap, arith, ℕ, ◌+◌, ◌∙◌}
use Rattle.terms.specs.Names.{folded}
use Rattle.fields.specs.Table.{tab_id}
use Rattle.fields.specs.Promises.{number_left}
use Rattle.fields.specs.Laws.Asked.{open_seat}
use Rattle.fields.specs.Laws.Can.{number_small, numbers_enough}
use Rattle.rules.specs.Sheet.{start_process}
use Rattle.rules.proofs.Laws.Sent.{size_only}
use Rattle.rules.proofs.Steps.Open.{opening_size, open_sent}
use Rattle.seats.proofs.open.send_open.Goals as goal

pub opens-requires : goal.opens-requires
opens-requires c =
    open_seat c.requires.0.takes

pub overflow_add-opens : goal.overflow_add-opens
overflow_add-opens c =
    let a = number_small in
    let b = numbers_enough in
    omega (arith, c.opens.ensures.1, a, b)

pub last-requires : goal.last-requires
last-requires c =
    (open_seat c.requires.0.takes).long

pub overflow_add-last : goal.overflow_add-last
overflow_add-last c =
    let a = number_small in
    omega (arith, c.last.ensures.1, a)

pub send_process-a-requires : goal.send_process-a-requires
send_process-a-requires c =
    let w = c.requires.0 in
    let n = number_left _ w.takes.sound in
    let a = number_small in
    record {
      room = omega (arith, w.roomy, w.takes.long.high);
      small = omega (arith, w.takes.long.high);
      short = omega (arith, c.last.ensures.0, n, a);
    }

pub send_tab-requires : goal.send_tab-requires
send_tab-requires c =
    let w = c.requires.0 in
    let x = c.args.x.now in
    let n = c.last.result + 1 in
    let f = c.send_process-a.ensures in
    let z = size_only c.args.new (start_process n c.args.owner (folded x)) in
    let m = opening_size n c.args.owner x in (
      omega (arith, w.roomy, w.takes.long.high, f.next, f.same, z, m),
      w.takes.long.high,
      w.takes.seat.high,
      c.tab_id-i.ensures.1,
    )

pub returns : goal.returns
returns c =
    let p = c.requires in
    open_sent _ _ _ p.0 p.1 c.last.ensures.0
    (c.tab_id-i.ensures.0 ∙ ap (λ (n : ℕ). tab_id c.args.s (n + 1)) c.opens.ensures.0)
    c.send_process-a.ensures c.send_tab.ensures
