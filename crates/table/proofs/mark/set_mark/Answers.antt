-- The tab waits for 3 at most, so what is written fits a byte. Assumes nothing.
use Rattle.std.proofs.Common.{arith}
use Rattle.fields.specs.Laws.Asked.{live_tab, waits_most}
use Rattle.fields.specs.Steps.Mark.{marked_of, weight_le}
use Rattle.table.proofs.Marks.{number_is}
use Rattle.table.proofs.mark.set_mark.Goals as goal

pub waiting-now-requires : goal.waiting-now-requires
waiting-now-requires c = live_tab c.requires.0

pub set_waiting-requires : goal.set_waiting-requires
set_waiting-requires c =
    let m = c.args.m in
    let most = waits_most c.requires.0 in
    (live_tab c.requires.0, omega (arith, most, c.waiting-now.ensures, number_is m, weight_le m))

pub returns : goal.returns
returns c = marked_of _ c.waiting-now.ensures.0 (number_is c.args.m) c.set_waiting.ensures
