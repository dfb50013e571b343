-- The definitions to be held beside document 01, in reading order.
pub mod View
pub mod Layout
pub mod Word
pub mod Clause
pub mod Sound
pub mod Find
pub mod Asked
pub mod Update
pub mod Fresh
