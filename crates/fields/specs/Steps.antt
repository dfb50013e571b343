-- Equations, the turns of loops and the parts of updates for the proofs of the table layer, the crates fields, soundness, links and
-- table: a file for each file of their src/ that needs one; Clash and Row are for soundness/src/row.rt, Update is for
-- links/src/hang.rt and table/src/fresh.rt. The layers above use Laws.
pub mod Layout
pub mod Names
pub mod Tab
pub mod Seat
pub mod Clash
pub mod Row
pub mod Count
pub mod Sound
pub mod Update
pub mod Mark
pub mod Open
pub mod Close
pub mod Find
pub mod Slots
