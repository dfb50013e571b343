-- `run::begin`: a line is written where the number in the start's answer is not 0.
use Rattle.logging.specs.Laws.Begin.{begun_done, begun_refused, line_some}
use Rattle.logging.proofs.run.begin.Goals as goal

pub returns-then-done : goal.returns-then-done
returns-then-done c = begun_done _ _ _ c.stewlattice_start.ensures c.number_in-number.ensures c.if-done.true

pub returns : goal.returns
returns c = (
  begun_refused _ _ _ c.stewlattice_start.ensures c.number_in-number.ensures c.if-done.false c.put_start.ensures,
  line_some _ c.put_start.ensures,
)
