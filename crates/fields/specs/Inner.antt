-- What the contracts of the table layer cite besides Table, shut as there. Assumes nothing.
pub use Rattle.fields.specs.Rule.Layout.{form, offsets_given, seat_at, tab_at, row_at}
pub use Rattle.fields.specs.Rule.Clause.{seat_in_range, empty_tab, empty_seat, let_or_empty, filled, selected_live}
pub use Rattle.fields.specs.Rule.Clause.{same_serial, hangs, good_name, tab_formed}
pub use Rattle.fields.specs.Rule.Find.{slot_of, tab_has, row_has, row_with}
pub use Rattle.fields.specs.Rule.Update.{spelled, hung, row_made, unhung, cleared}
pub use Rattle.fields.specs.Rule.Fresh.{blank, ordered}
pub use Rattle.fields.specs.Held.{LetterOf, WroteField, Left, Hangable, Makable, Unhangable, Orderable}
pub use Rattle.fields.specs.Good.{tab_good, seat_good, tabs_true, bare_row, clash, row_good, Named, TabCounts}
