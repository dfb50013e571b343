-- The loop keeps: all orders are sound exactly if those that are left are, after the last seat. Assumes nothing.
use Rattle.std.proofs.Common.{◌≡◌}
use Rattle.terms.specs.Inner.{orders_from, sound_orders}
use Rattle.terms.specs.Steps.Order.{chain}
use Rattle.names.proofs.orders.are_sound.Given as goal

abbrev pub invariant-loop-i : goal.invariant-loop-i
invariant-loop-i l = sound_orders (orders_from l.b 0 l.count) ≡ chain l.b l.last l.i l.count
