-- The definitions: the hosts of a stream, and the line that answers one.
pub mod Hosts
pub mod Answers
