-- The sum is `tab_id`, and eight seats times 65,536 fit in four bytes. Assumes nothing.
use Rattle.std.proofs.Common.{arith}
use Rattle.fields.specs.Steps.Layout.{tab_id_is, most_opens_lem}
use Rattle.fields.proofs.layout.id.tab_id.Goals as goal

pub overflow_add-result : goal.overflow_add-result
overflow_add-result c = omega (arith, most_opens_lem)

pub returns : goal.returns
returns c = omega (arith, tab_id_is c.args.s c.args.n, most_opens_lem)
