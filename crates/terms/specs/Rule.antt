-- The definitions of document 01, "Names" and "Order book", in its order and words.
-- The proofs in this folder compute with them, so each is `unfoldable`; the folder's root keeps this module to itself.
pub mod Num
pub mod Name
pub mod Under
pub mod Order
pub mod Listed
pub mod Book
pub mod Suffix
