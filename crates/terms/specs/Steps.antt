-- Equations and loop steps, a file for each file of src/ that needs one, here and in the crate names. For the proofs of these
-- two; the layers above use Laws.
pub mod Walk
pub mod Fold
pub mod Under
pub mod Order
pub mod Listed
pub mod Book
pub mod Longest
pub mod Suffix
