-- What is promised, each promise with its name and a sentence, and a line or two of proof.
--   Step    of one call: determined, refused, what fits, the answer, a table stays sound, what is read
-- and of every history of one table. `History book cs t` says that the table was started from the order book `book`, was lent to
-- the calls `cs`, and is now `t`.
--   Demand  demand 3, clause by clause and as one record, Promised
--   Quark   what the Quark paper promises of its kernel
--   Ids     no id is given twice, actions go to what is live, nothing comes that was not asked for
--   Whence  whence every action came, and who can change what
-- and of two steps, in any two histories.
--   Response  response integrity and tab non-interference
pub mod Step
pub mod Demand
pub mod Quark
pub mod Ids
pub mod Whence
pub mod Response
