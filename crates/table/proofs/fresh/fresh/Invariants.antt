-- The table is wiped, and then has seats 1 to n as ordered. Assumes nothing.
use Rattle.std.proofs.Common.{length, ◌≡◌}
use Rattle.fields.specs.Table.{table_bytes}
use Rattle.fields.specs.Inner.{ordered}
use Rattle.table.proofs.fresh.fresh.Given as goal

abbrev pub invariant-loop-n : goal.invariant-loop-n
invariant-loop-n l = (length l.t ≡ table_bytes) × (l.t ≡ ordered l.book l.n)
