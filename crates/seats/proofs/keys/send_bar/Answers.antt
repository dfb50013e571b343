-- Slot 0 shows nothing; the suffix of a live tab has at most 64 bytes. Assumes nothing.
use Rattle.std.proofs.Common.{ap, arith, length}
use Rattle.fields.specs.Table.{view}
use Rattle.rules.specs.Sheet.{desk_at}
use Rattle.rules.proofs.Steps.Desk.{suffix_short}
use Rattle.rules.proofs.Steps.Keys.{bar_empty, bar_suffix}
use Rattle.seats.proofs.keys.send_bar.Goals as goal

pub returns-then-k-eq0 : goal.returns-then-k-eq0
returns-then-k-eq0 c =
    bar_empty (desk_at c.args.t.now c.args.s) c.send_bare.ensures c.if-k-eq0.true

pub send_raw-requires : goal.send_raw-requires
send_raw-requires c =
    let w = c.requires in
    let e = ap length c.suffix.ensures in
    let l = suffix_short (view c.args.t.now) c.args.s c.args.k in
    record { room = omega (arith, w.1, e, l); small = omega (arith, e, l); short = w.0.seat }

pub returns : goal.returns
returns c =
    bar_suffix (desk_at c.args.t.now c.args.s) c.args.k c.send_raw.ensures
    c.suffix.ensures c.if-k-eq0.false
