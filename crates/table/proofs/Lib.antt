-- Lemmas of the proofs of several functions.
pub mod Marks
