-- The loop keeps: the first j of the row's 64 bytes are the folded name's, zeros after its end. Each turn writes
-- one more. Assumes nothing.
use Rattle.std.proofs.Common.{length, ◌≡◌}
use Rattle.terms.specs.Names.{folded}
use Rattle.fields.specs.Table.{table_bytes}
use Rattle.fields.specs.Inner.{spelled}
use Rattle.letters.proofs.spell.spell.Given as goal

abbrev pub invariant-loop-j : goal.invariant-loop-j
invariant-loop-j l = (length l.t ≡ table_bytes) × (l.t ≡ spelled l.initial.t l.p (folded l.name) l.j)
