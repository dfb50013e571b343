-- The name and what follows it are empty. Assumes nothing.
use Rattle.rules.proofs.Laws.Sent.{sent_payload}
use Rattle.rules.proofs.Steps.Send.{raw_alone}
use Rattle.frames.proofs.send.send_raw.Goals as goal

pub returns : goal.returns
returns c =
    sent_payload _ _ (raw_alone c.args.x.now) c.send.ensures
