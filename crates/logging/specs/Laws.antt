-- What the promises and the proofs of the functions cite.
--   Begin    begun_done, begun_refused: how each exit of the start comes to what its contract says
--   Turn     turn_read, turn_gave: how each exit of a turn comes to what its contract says
--   Given    turns_give: the events that turns gave the kernel, and those that follow
--   Reading  turns_read: a run is a reader
--   Run      what the loop keeps, and how each exit of it and of the log comes to what its contract says
--   Gives    may_give: a turn can give what is ready
--   Stand    a run on its way, and one turn more
--   Runs     goes_all, runs_sized: every stream, however it is cut, has a run
pub mod Begin
pub mod Turn
pub mod Given
pub mod Reading
pub mod Run
pub mod Gives
pub mod Stand
pub mod Runs
