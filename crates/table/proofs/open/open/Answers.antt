-- A row that is found takes the tab; else one is made for it in the lowest free row, which a free slot leaves. Assumes nothing.
use Rattle.std.proofs.Common.{sym, ◌∙◌}
use Rattle.fields.specs.Laws.Table.{table_facts}
use Rattle.fields.specs.Laws.Asked.{open_seat}
use Rattle.fields.specs.Laws.Lowest.{any_none, any_some}
use Rattle.fields.specs.Steps.Open.{join_hangs, open_joins, free_some, new_makes, new_hangs, open_renews}
use Rattle.table.proofs.open.open.Goals as goal

pub hang-requires : goal.hang-requires
hang-requires c =
    let p = any_some _ (sym c.in-Some.is ∙ c.requires.1) in
    join_hangs c.requires.0 c.free_slot-k.ensures.0 p.0 p.1

pub free_process-requires : goal.free_process-requires
free_process-requires c =
    (table_facts _ c.requires.0.sound).long

pub unwrap-q-requires : goal.unwrap-q-requires
unwrap-q-requires c = rw c.free_process.ensures.found (free_some c.requires.0)

pub owner_at-o-requires : goal.owner_at-o-requires
owner_at-o-requires c =
    open_seat c.requires.0

pub make-requires : goal.make-requires
make-requires c =
    new_makes c.requires.0 (any_some _ (sym c.unwrap-q.ensures ∙ c.free_process.ensures.found)).0

pub hang-requires-in-None : goal.hang-requires-in-None
hang-requires-in-None c =
    let none = any_none _ (sym c.in-None.is ∙ c.requires.1) in
    new_hangs c.requires.0 c.free_slot-k.ensures.0 none
    (any_some _ (sym c.unwrap-q.ensures ∙ c.free_process.ensures.found)).0 c.owner_at-o.ensures c.make.ensures.1

pub returns-in-Some : goal.returns-in-Some
returns-in-Some c =
    let p = any_some _ (sym c.in-Some.is ∙ c.requires.1) in
    open_joins c.args.t.now c.args.s c.args.suffix.now c.free_slot-k.ensures.0 p.0 p.1 c.hang.ensures.1

pub returns-in-None : goal.returns-in-None
returns-in-None c =
    let none = any_none _ (sym c.in-None.is ∙ c.requires.1) in
    open_renews c.args.t.now c.args.s c.args.suffix.now c.free_slot-k.ensures.0 none
    (any_some _ (sym c.unwrap-q.ensures ∙ c.free_process.ensures.found)).0 c.owner_at-o.ensures c.make.ensures.1
    c.hang-in-None.ensures.1
