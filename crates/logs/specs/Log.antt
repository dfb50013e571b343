-- What leaves this crate: the definitions of Rule under their names, shut. Assumes nothing.
pub use Rattle.logs.specs.Rule.Stream.{whole, oversized, first_bytes, events_in, events, joined}
pub use Rattle.logs.specs.Rule.Line.{digits, decimal, hex_digit, hex, number, payload, event_line, action_line, start_line}
pub use Rattle.logs.specs.Rule.Line.{action_lines, lines}
pub use Rattle.logs.specs.Rule.Log.{step, log_from, table_after, log_of}
pub use Rattle.logs.specs.Rule.Reading.{chunk, Reads, comes, ends, gives, stops, Serves, reads, closes, serves, quits}
pub use Rattle.logs.specs.Rule.Reading.{ServesSome}
pub use Rattle.logs.specs.Rule.Parted.{Alone, Oversize, Short, Parted, done, frame, large, short, Laid}
