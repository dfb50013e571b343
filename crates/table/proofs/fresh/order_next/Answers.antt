-- The two writes are those of the next seat. Assumes nothing.
use Rattle.std.proofs.Common.{ap, ◌∙◌}
use Rattle.terms.specs.Names.{tenant_of, options_of}
use Rattle.terms.specs.Laws.Order.{or_zeros}
use Rattle.fields.specs.Steps.Update.{ordered_more}
use Rattle.table.proofs.fresh.order_next.Goals as goal

pub returns : goal.returns
returns c =
    let e = or_zeros c.letting_of.result c.unwrap_or_default-tenant.result c.unwrap_or_default-tenant.ensures in
    ordered_more c.args.book.now c.args.n c.requires.is (e.0 ∙ ap tenant_of c.letting_of.ensures)
    (e.1 ∙ ap options_of c.letting_of.ensures) c.set_tenant.ensures c.set_options.ensures
