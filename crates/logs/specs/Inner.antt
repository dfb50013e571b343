-- What the contracts of the functions cite besides Log, shut as there. Assumes nothing.
pub use Rattle.logs.specs.Rule.Written.{IsFront, Holds, Holding, numbers, lines_of}
pub use Rattle.logs.specs.Rule.Reading.{taken, one_more, cut, ready, left}
pub use Rattle.logs.specs.Rule.Serving.{most_text, event_at, moved_past, Room, One, Many}
