-- The meaning of the table layer, the crates fields, soundness, links and table, in reading order.
--   Base      the words that definitions are written in
--   Rule      the definitions, to be held beside document 01: View, Layout, Word, Clause, Sound, Find, Asked, Update, Fresh
--   Promises  what is promised of a table: it is what it shows, it stays sound, it has room, a serial is given once
--   Laws      what follows from the definitions, for every layer
-- A reader has to believe Base and Rule; the rest is proved. Rule is no `pub mod`: inside specs/ its definitions are open to
-- proofs, and Table and Inner pass them on shut, so that neither proofs/ nor another crate opens one.
--   Table     what the layers above cite
--   Inner     what the contracts of the table layer cite besides
--   Held      what functions inside that layer ask of their callers, and what they leave
--   Good      how the code goes through a table
--   Change    what writes do to a view, and how fields are told apart
--   Steps     equations for that layer's proofs
pub mod Base
mod Rule
mod Held
mod Good
mod Change
pub mod Table
pub mod Inner
pub mod Laws
pub mod Promises
pub mod Steps
