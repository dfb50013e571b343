-- What the contracts of the functions mean, and that the text of the program desklog is the log. The log itself is defined in the
-- crate log, what is held of a stream and what a read does in the crate reader.
pub mod Begin
pub mod Turn
pub mod Turns
pub mod Ran
pub mod Streams
pub mod Promises
pub mod Laws
