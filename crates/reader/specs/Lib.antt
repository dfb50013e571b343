-- What is held of a stream that comes in chunks, and what a read does to it.
--   Front     the front of a room that was read into
--   Held      the definitions that the contracts cite
--   Promises  what is promised of a read
--   Laws      what follows from the definitions, for the proofs
pub mod Front
pub mod Held
pub mod Promises
pub mod Laws
