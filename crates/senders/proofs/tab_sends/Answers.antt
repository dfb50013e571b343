-- A tab that is not live is refused. Assumes nothing.
use Rattle.std.proofs.lemmas.Result.{err_from_is_err_and}
use Rattle.fields.specs.Laws.Table.{table_facts}
use Rattle.rules.proofs.Steps.Decide.{none_is}
use Rattle.rules.proofs.Steps.Serve.{tab_there, tab_dead, tab_served}
use Rattle.senders.proofs.tab_sends.Goals as goal

pub tab_of-requires : goal.tab_of-requires
tab_of-requires c = (table_facts _ c.requires.0.sound).long

pub returns-in_err-place : goal.returns-in_err-place
returns-in_err-place c =
    let e = c.in_err-place.ensures in
    let p = err_from_is_err_and c.from_residual.result c.from_residual.ensures.1 in
    rw (p.1, p.2, none_is e.value e.ok_part) (tab_dead _ _ _ _ c.tab_of.ensures e.ok_part)

pub from_tab-requires : goal.from_tab-requires
from_tab-requires c =
    (tab_there c.args.i c.requires.0 c.tab_of.ensures c.in_ok-place.ensures.ok_part, c.requires.1)

pub returns : goal.returns
returns c = tab_served _ _ _ _ c.tab_of.ensures c.in_ok-place.ensures.ok_part c.from_tab.ensures
