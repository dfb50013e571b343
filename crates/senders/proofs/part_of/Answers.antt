-- The bytes from where a part begins, as many as it has. Assumes nothing.
use Rattle.rules.proofs.Steps.Serve.{part_is}
use Rattle.senders.proofs.part_of.Goals as goal

pub returns : goal.returns
returns c = part_is c.args.e.now c.args.p
