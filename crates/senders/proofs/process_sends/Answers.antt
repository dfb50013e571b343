-- A process that is not live is refused 4, and a result for no live tab 10. Assumes nothing.
use Rattle.std.proofs.Common.{refl, sym, ◌∙◌}
use Rattle.std.proofs.lemmas.Result.{err_from_is_err_and}
use Rattle.fields.specs.Laws.Lowest.{any_none, any_some}
use Rattle.fields.specs.Laws.Table.{table_facts}
use Rattle.rules.proofs.Steps.Decide.{none_is}
use Rattle.rules.proofs.Steps.Serve.{part_small, tab_there, process_dead, process_nowhere, process_served}
use Rattle.senders.proofs.process_sends.Goals as goal

pub process_of-requires : goal.process_of-requires
process_of-requires c = (table_facts _ c.requires.0.sound).long

pub returns-in_err-ok_or : goal.returns-in_err-ok_or
returns-in_err-ok_or c =
    let e = c.in_err-ok_or.ensures in
    let p = err_from_is_err_and c.from_residual.result c.from_residual.ensures.1 in
    rw (p.1, p.2, none_is e.value e.ok_part)
    (process_dead _ _ _ _ refl (any_none _ (sym e.ok_part ∙ c.process_of.ensures.found)))

pub tab_of-requires : goal.tab_of-requires
tab_of-requires c = (table_facts _ c.requires.0.sound).long

pub returns-in_err-place : goal.returns-in_err-place
returns-in_err-place c =
    let e = c.in_err-place.ensures in
    let p = err_from_is_err_and c.from_residual-in_err-place.result c.from_residual-in_err-place.ensures.1 in
    let row = any_some _ (sym c.in_ok-ok_or.ensures.ok_part ∙ c.process_of.ensures.found) in
    rw (p.1, p.2, none_is e.value e.ok_part) (process_nowhere _ _ _ _ row.0 row.1 c.tab_of.ensures e.ok_part)

pub result-requires : goal.result-requires
result-requires c = (
  tab_there c.args.d.tab c.requires.0 c.tab_of.ensures c.in_ok-place.ensures.ok_part,
  part_small _ _ c.part_of.ensures c.requires.1,
)

pub returns : goal.returns
returns c =
    let row = any_some _ (sym c.in_ok-ok_or.ensures.ok_part ∙ c.process_of.ensures.found) in
    process_served _ _ _ _ row.0 row.1 c.tab_of.ensures c.in_ok-place.ensures.ok_part c.part_of.ensures c.result.ensures
