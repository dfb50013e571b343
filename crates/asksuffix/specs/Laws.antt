-- What follows from the definitions, and what the proofs of the functions cite.
--   Hosts   what a stream begins with, more bytes behind it, its hosts one by one
--   Laid    hosts that are laid end to end are read back, and those of a stream laid end to end again
--   Line    how long a line is, and its words written one after another
--   Turn    turn_answered, turn_stopped, turn_read: how each exit of a turn comes to what its contract says
--   Answers the answers to a stream host by host, and what turns say of them
--   Run     what the program's loop keeps, and how each exit of it comes to what its contract says
--   Stand   a run on its way, and one turn more
--   Runs    goes_all, runs_sized: every stream of bytes, however it is cut, has a run
pub mod Hosts
pub mod Laid
pub mod Line
pub mod Turn
pub mod Answers
pub mod Run
pub mod Stand
pub mod Runs
