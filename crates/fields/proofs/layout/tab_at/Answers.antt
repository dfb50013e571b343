-- The slot is one of ten in the seat's bytes, and the sum is `tab_at`. Assumes nothing.
use Rattle.std.proofs.Common.{arith}
use Rattle.fields.specs.Steps.Layout.{table_bytes_lem, seat_at_is, tab_at_is}
use Rattle.fields.proofs.layout.tab_at.Goals as goal

pub overflow_add-result : goal.overflow_add-result
overflow_add-result c = omega (arith, table_bytes_lem)

pub overflow_add-result-2 : goal.overflow_add-result-2
overflow_add-result-2 c = omega (arith, table_bytes_lem)

pub returns : goal.returns
returns c = let a = c.args in omega (arith, table_bytes_lem, seat_at_is a.s, tab_at_is a.s a.k)
