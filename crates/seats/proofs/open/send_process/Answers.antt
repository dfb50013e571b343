-- One action, or none. Assumes nothing.
use Rattle.std.proofs.Common.{arith}
use Rattle.terms.specs.Names.{folded}
use Rattle.rules.specs.Sheet.{start_process}
use Rattle.rules.proofs.Laws.Sent.{only_yes, only_no}
use Rattle.rules.proofs.Steps.Open.{process_sent}
use Rattle.seats.proofs.open.send_process.Goals as goal

pub returns-then-not-new : goal.returns-then-not-new
returns-then-not-new c =
    let a = c.args in
    only_no (start_process a.n a.owner (folded a.x.now)) c.if-not-new.true

pub returns : goal.returns
returns c =
    let a = c.args in
    only_yes (process_sent a.owner a.x.now (omega arith) c.send_name.ensures)
    c.if-not-new.false
