-- A seat that is not let is refused. Assumes nothing.
use Rattle.fields.specs.Laws.Table.{table_facts}
use Rattle.rules.proofs.Steps.Serve.{seat_unlet, seat_served}
use Rattle.senders.proofs.seat_sends.Goals as goal

pub is_let-requires : goal.is_let-requires
is_let-requires c =
    (table_facts _ c.requires.0.sound).long

pub returns-then-not-is_let : goal.returns-then-not-is_let
returns-then-not-is_let c = seat_unlet _ _ _ _ c.is_let.ensures c.if-not-is_let.true

pub returns : goal.returns
returns c =
    seat_served _ _ _ _ c.is_let.ensures c.if-not-is_let.false c.from_seat.ensures
