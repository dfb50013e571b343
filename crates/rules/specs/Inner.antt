-- What the contracts of the kernel cite besides Sheet, shut as there. Assumes nothing.
pub use Rattle.rules.specs.Held.{Wrote, Put, size, Sent, Fits, number_given, actions_given, written_given, Says, Replied, Decided, Able, Ready, ReadyTab, Awaited}
pub use Rattle.rules.specs.Held.{Opening, Taking, Found, book_number, open_number, Shows, bar_of}
pub use Rattle.rules.specs.Held.{PartIn, SeatIn, TabIn, EventIn}
pub use Rattle.rules.specs.Rule.Event.{sized, from_seat, from_tab, sent_by, delivered, rest}
pub use Rattle.rules.specs.Rule.Allow.{goes_on}
pub use Rattle.rules.specs.Rule.Seat.{only, open_actions, close_actions}
