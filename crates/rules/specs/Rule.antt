-- The definitions, in reading order. To be held beside document 01:
pub mod Frame
pub mod Event
pub mod Fits
pub mod Action
pub mod Refusal
pub mod Desk
pub mod Allow
pub mod Seat
pub mod Tab
pub mod Step
-- and to be held beside demand 3 and the Quark paper:
pub mod Call
pub mod History
pub mod Demand
pub mod Quark
pub mod Ids
pub mod Whence
pub mod Own
pub mod Response
