-- What the contracts of this crate cite.
pub mod Decimal
pub mod Pieces
pub mod Words
