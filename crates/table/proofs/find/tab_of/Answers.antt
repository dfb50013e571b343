-- No tab is live in a seat that is not there; else the slot that is found decides. Assumes nothing.
use Rattle.std.proofs.Common.{arith, false, leb, sym, ◌&&◌, ◌∙◌, ◌≡◌}
use Rattle.std.proofs.lemmas.Grind.{common_steps}
use Rattle.fields.specs.Steps.Find.{tab_out, tab_none, tab_some}
use Rattle.table.proofs.find.tab_of.Goals as goal

pub returns-then-not-contains : goal.returns-then-not-contains
returns-then-not-contains c =
    let s = c.seat_of_id-seat.result in
    let out : leb 1 s && leb s 8 ≡ false = grind (arith, common_steps) in
    tab_out c.args.t.now _ c.seat_of_id-seat.ensures out

pub returns-in_err-slot : goal.returns-in_err-slot
returns-in_err-slot c =
    c.from_residual.ensures
    ∙ tab_none _ _ c.seat_of_id-seat.ensures c.serial_of_id.ensures.0 (sym c.in_err-slot.was ∙ c.slot_of.ensures)

pub returns : goal.returns
returns c =
    tab_some _ _ c.seat_of_id-seat.ensures c.serial_of_id.ensures.0 (sym c.in_ok-slot.was ∙ c.slot_of.ensures)
