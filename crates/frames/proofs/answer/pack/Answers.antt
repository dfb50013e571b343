-- The sum is the definition. Assumes nothing.
use Rattle.rules.proofs.Steps.Answer.{packed_is}
use Rattle.frames.proofs.answer.pack.Goals as goal

pub returns : goal.returns
returns c = rw (c.from.ensures, c.from-2.ensures, c.from-3.ensures) (packed_is _ _ _)
