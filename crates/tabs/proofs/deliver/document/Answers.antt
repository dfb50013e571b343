-- Refused, or passed on. Assumes nothing.
use Rattle.rules.proofs.Steps.Desk.{tab_ready, the_tab}
use Rattle.rules.proofs.Steps.Deliver.{document_refused, document_passed}
use Rattle.tabs.proofs.deliver.document.Goals as goal

pub is_waiting-requires : goal.is_waiting-requires
is_waiting-requires c =
    the_tab (tab_ready c.requires.0)

pub returns-then-not-is_waiting : goal.returns-then-not-is_waiting
returns-then-not-is_waiting c =
    document_refused _ _ _ _ c.is_waiting.ensures c.if-not-is_waiting.true

pub returns : goal.returns
returns c =
    document_passed _ _ _ _ c.is_waiting.ensures c.if-not-is_waiting.false
    c.pass_on.ensures
