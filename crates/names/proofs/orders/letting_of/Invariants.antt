-- The loop keeps: what all orders say of the seat is what those that are left say. Assumes nothing.
use Rattle.std.proofs.Common.{◌≡◌}
use Rattle.terms.specs.Names.{letting_of}
use Rattle.terms.specs.Inner.{orders_from}
use Rattle.terms.specs.Steps.Order.{said}
use Rattle.names.proofs.orders.letting_of.Given as goal

abbrev pub invariant-loop-i : goal.invariant-loop-i
invariant-loop-i l = letting_of l.seat (orders_from l.b 0 l.count) ≡ said l.b l.seat l.i l.count
