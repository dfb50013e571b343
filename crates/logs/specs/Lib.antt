-- The desk log as definitions, and what follows from them, in reading order. What is promised is proofs/Promises.
--   Rule      the definitions; Stream, Line and Log are to be held beside document 01
--   Laws      what follows from the definitions
-- Rule is no `pub mod`: inside specs/ its definitions are open to proofs, and Log and Inner pass them on shut.
--   Log       what the other crates cite
--   Inner     what the contracts of the functions cite besides
mod Rule
pub mod Log
pub mod Inner
pub mod Laws
