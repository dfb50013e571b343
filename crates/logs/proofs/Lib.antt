-- What is proved of streams and of their readers, in reading order; the definitions are specs/Rule.
--   Promises  what is promised of streams and of their readers
--   Readers   a reader's log; Promises rests on it
pub mod Readers
pub mod Promises
