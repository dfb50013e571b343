-- Refused, or passed on. Assumes nothing.
use Rattle.rules.proofs.Steps.Deliver.{asked_waits, result_refused, result_passed}
use Rattle.tabs.proofs.deliver.result.Goals as goal

pub returns-then-not-is_asked : goal.returns-then-not-is_asked
returns-then-not-is_asked c =
    result_refused _ _ _ _ _ c.is_asked.ensures c.if-not-is_asked.true

pub pass_on-requires : goal.pass_on-requires
pass_on-requires c =
    record {
      tab = c.requires.0;
      mark = asked_waits _ _ _ _ c.is_asked.ensures c.if-not-is_asked.false;
      small = c.requires.1;
    }

pub returns : goal.returns
returns c =
    result_passed _ _ _ _ _ c.is_asked.ensures c.if-not-is_asked.false c.pass_on.ensures
