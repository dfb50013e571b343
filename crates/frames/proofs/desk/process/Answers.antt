-- The number of the row that the tab hangs on. Assumes nothing.
use Rattle.std.proofs.Common.{arith}
use Rattle.fields.specs.Laws.Can.{number_small}
use Rattle.rules.proofs.Steps.Desk.{the_tab, the_row, process_is}
use Rattle.frames.proofs.desk.process.Goals as goal

pub row-requires : goal.row-requires
row-requires c = the_tab c.requires

pub number-requires : goal.number-requires
number-requires c = the_row c.requires c.row.ensures.0

pub returns : goal.returns
returns c = (
  process_is _ _ _ c.row.ensures.0 c.number.ensures.0,
  let small = number_small in omega
      (arith, c.number.ensures.1),
)
