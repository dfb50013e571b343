-- A mark that is waited for is in the number, so it can be taken away. Assumes nothing.
use Rattle.std.proofs.Common.{arith}
use Rattle.fields.specs.Laws.Asked.{live_tab, waits_most}
use Rattle.fields.specs.Steps.Mark.{waits_low, unmarked_of}
use Rattle.table.proofs.Marks.{number_is}
use Rattle.table.proofs.mark.clear_mark.Goals as goal

pub waiting-now-requires : goal.waiting-now-requires
waiting-now-requires c = live_tab c.requires.0

pub overflow_sub-now : goal.overflow_sub-now
overflow_sub-now c =
    omega (arith, waits_low _ _ _ _ c.requires.1, c.waiting-now.ensures, number_is c.args.m)

pub set_waiting-requires : goal.set_waiting-requires
set_waiting-requires c =
    let most = waits_most c.requires.0 in
    (live_tab c.requires.0, omega (arith, most, c.waiting-now.ensures))

pub returns : goal.returns
returns c = unmarked_of _ c.waiting-now.ensures.0 (number_is c.args.m) c.set_waiting.ensures
