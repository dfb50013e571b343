-- All three parts are empty. Assumes nothing.
use Rattle.std.proofs.Common.{[]}
use Rattle.rules.proofs.Laws.Sent.{sent_payload}
use Rattle.rules.proofs.Steps.Send.{raw_alone}
use Rattle.frames.proofs.send.send_bare.Goals as goal

pub returns : goal.returns
returns c = sent_payload _ _ (raw_alone []) c.send.ensures
