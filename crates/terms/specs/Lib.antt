-- The meaning of the crates terms and names, in reading order.
--   Base    the words that definitions are written in
--   Rule    the definitions, to be held beside document 01: Num, Name, Under, Order, Listed, Book, Suffix
--   Marked  P1 to P12 of the document, one table under one theorem
--   Laws    what follows from the definitions, for every layer
-- A reader has to believe Base and Rule; the rest is proved. Rule is no `pub mod`: inside specs/ its definitions are open to
-- proofs, and Names and Inner pass them on shut, so that neither proofs/ nor another crate opens one.
--   Names   what the layers above cite
--   Inner   what the contracts of these two cite besides
--   Walk    how the code reads a name
--   Steps   equations for the proofs of these two
--   Text    an example's bytes
--   Forwarder  the order book of the worked history, and what it says
pub mod Base
mod Rule
mod Walk
pub mod Names
pub mod Inner
pub mod Laws
pub mod Steps
pub mod Text
pub mod Marked
pub mod Forwarder
