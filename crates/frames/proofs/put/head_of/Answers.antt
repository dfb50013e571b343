-- Party and tag are bytes; id and size are four bytes each. Assumes nothing.
use Rattle.rules.proofs.Steps.Put.{head_is}
use Rattle.frames.proofs.put.head_of.Goals as goal

pub returns : goal.returns
returns c =
    rw (← c.party.ensures, ← c.tag.ensures)
    (head_is _ c.args.id _ c.args.size _ _ c.party.type_inv c.tag.type_inv c.to_be_bytes-i.ensures c.to_be_bytes-n.ensures)
