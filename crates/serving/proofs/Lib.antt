-- What the proofs share.
mod Turns
