-- What leaves the table layer: the definitions of Rule, and of Held a seat, a tab row and a process row, under their names, shut.
-- The layers above cite these and reason by Laws; nothing outside this crate's specs/ can open one. Assumes nothing.
pub use Rattle.fields.specs.Rule.View.{View, Field, tenant, options, selected, seat_zero, opens, slots, serial, row}
pub use Rattle.fields.specs.Rule.View.{waiting, number, owner, tabs, size, row_zero, letter, seats_at, rows_at, last}
pub use Rattle.fields.specs.Rule.Layout.{table_bytes, most_opens, most_number, view, tab_id, seat_of_id, serial_of_id}
pub use Rattle.fields.specs.Held.{SeatOf, TabOf, RowOf}
pub use Rattle.fields.specs.Rule.Sound.{sound_table}
pub use Rattle.fields.specs.Rule.Word.{live, used, owner_at, name_of, pointing}
pub use Rattle.fields.specs.Rule.Find.{placed, tab_of, process_of, process_with, free_slot, free_process, live_tabs}
pub use Rattle.fields.specs.Rule.Asked.{HasSlot, Openable, Closable, TabLive}
pub use Rattle.fields.specs.Rule.Update.{opened, picked, closed, weight, waits, marked, unmarked}
pub use Rattle.fields.specs.Rule.Fresh.{fresh}
