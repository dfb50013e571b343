-- What the contracts of the program's functions mean, and that its text is the answers to the hosts of its stream, in reading
-- order.
--   Rule      the definitions, to be held beside what --help says
--   Turn      what a turn of the program leaves
--   Turns     a run, turn by turn
--   Streams   which chunks reads can bring, and how far a run over them comes
--   Promises  what is promised of the program
--   Laws      what follows from the definitions, for the proofs of its functions
pub mod Rule
pub mod Turn
pub mod Turns
pub mod Streams
pub mod Promises
pub mod Laws
