-- The letters after the name are zero, so the room tells what the name does. Assumes nothing.
use Rattle.std.proofs.Common.{arith}
use Rattle.std.proofs.lemmas.Grind.{common_steps}
use Rattle.fields.specs.Steps.Row.{name_is}
use Rattle.soundness.proofs.row.is_name_good.Goals as goal

pub returns-else-are_small : goal.returns-else-are_small
returns-else-are_small c = rw (name_is _ _ c.requires.1) (grind (arith, common_steps))
