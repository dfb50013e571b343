-- The tab is taken off its row; a row that had this tab alone is cleared. Assumes nothing.
use Rattle.std.proofs.Common.{arith, ◌≡◌, ◌≢◌}
use Rattle.fields.specs.Laws.Asked.{close_seat}
use Rattle.fields.specs.Steps.Close.{close_tab_lem, close_row, close_unhang, close_leaves, close_ends}
use Rattle.table.proofs.close.close.Goals as goal

pub selected-k-requires : goal.selected-k-requires
selected-k-requires c = close_seat c.requires

pub row-p-requires : goal.row-p-requires
row-p-requires c =
    close_tab_lem c.requires c.selected-k.ensures.0

pub tabs-count-requires : goal.tabs-count-requires
tabs-count-requires c =
    close_row c.requires c.selected-k.ensures.0 c.row-p.ensures.0

pub unhang-requires : goal.unhang-requires
unhang-requires c =
    close_unhang c.requires c.selected-k.ensures.0 c.row-p.ensures.0

pub clear-requires : goal.clear-requires
clear-requires c =
    record { long = c.unhang.ensures.0; row = (close_row c.requires c.selected-k.ensures.0 c.row-p.ensures.0).row }

pub returns-then-last : goal.returns-then-last
returns-then-last c =
    let only : c.tabs-count.result ≡ 1 = omega (arith, c.if-last.true) in
    close_ends c.args.t.now c.args.s c.selected-k.ensures.0 c.row-p.ensures.0
    c.tabs-count.ensures.0 only c.unhang.ensures.1 c.clear.ensures.1

pub returns-else-last : goal.returns-else-last
returns-else-last c =
    let more : c.tabs-count.result ≢ 1 = λ e. omega arith in
    close_leaves c.args.t.now c.args.s c.selected-k.ensures.0 c.row-p.ensures.0
    c.tabs-count.ensures.0 more c.unhang.ensures.1
