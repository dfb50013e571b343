-- What the book says, then 8 and 9. Assumes nothing.
use Rattle.std.proofs.lemmas.Result.{err_from_is_err_and}
use Rattle.fields.specs.Laws.Asked.{sound_seat, let_seat}
use Rattle.rules.proofs.Steps.Number.{number_book, number_full, number_spent, number_none}
use Rattle.seats.proofs.open.check_open.Goals as goal

pub returns-in_err-check_suffix : goal.returns-in_err-check_suffix
returns-in_err-check_suffix c =
    let p = err_from_is_err_and c.from_residual.result c.from_residual.ensures.1 in
    rw (p.1, p.2) (number_book _ _ _ _ _ c.in_err-check_suffix.ensures)

pub live_tabs-requires : goal.live_tabs-requires
live_tabs-requires c = (c.requires.sound, let_seat _ _ c.requires.is_let)

pub returns-then-live_tabs-eq10 : goal.returns-then-live_tabs-eq10
returns-then-live_tabs-eq10 c =
    number_full _ _ _ _ c.in_ok-check_suffix.ensures c.live_tabs.ensures c.if-live_tabs-eq10.true

pub is_spent-requires : goal.is_spent-requires
is_spent-requires c = sound_seat c.requires.sound (let_seat _ _ c.requires.is_let)

pub returns-then-is_spent : goal.returns-then-is_spent
returns-then-is_spent c =
    number_spent _ _ _ _ c.in_ok-check_suffix.ensures c.live_tabs.ensures c.if-live_tabs-eq10.false
    c.is_spent.ensures c.if-is_spent.true

pub returns : goal.returns
returns c =
    number_none _ _ _ _ c.in_ok-check_suffix.ensures c.live_tabs.ensures c.if-live_tabs-eq10.false
    c.is_spent.ensures c.if-is_spent.false
