-- What is proved of the rule sheet, in reading order; the definitions are specs/Rule.
--   Promises  what is promised of one call, and of every history of a table
--   Worked    a history that is reached: the freight forwarder's
--   Laws      what follows from the definitions for one call, for every layer
--   Time      what follows for every history
--   Steps     how each exit of a function of the kernel comes to what its contract says
-- They stand here and not in specs/ so that an edit of a definition, in must-fail/, is refused by the theorem that it breaks.
pub mod Laws
pub mod Time
pub mod Promises
pub mod Worked
pub mod Steps
