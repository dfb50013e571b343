-- One action, or none. Assumes nothing.
use Rattle.std.proofs.Common.{sym, ◌∙◌}
use Rattle.rules.specs.Sheet.{desk_at, stop_process}
use Rattle.rules.proofs.Laws.Sent.{only_yes, only_no}
use Rattle.rules.proofs.Steps.Tab.{sent_id}
use Rattle.seats.proofs.keys.send_stop.Goals as goal

pub returns-then-not-is_last : goal.returns-then-not-is_last
returns-then-not-is_last c =
    only_no (stop_process ((desk_at c.args.t.now c.args.s).process c.args.k)) (sym c.is_last.ensures ∙ c.if-not-is_last.true)

pub returns : goal.returns
returns c =
    only_yes (sent_id c.process.ensures.0 c.send_bare.ensures) (sym c.is_last.ensures ∙ c.if-not-is_last.false)
