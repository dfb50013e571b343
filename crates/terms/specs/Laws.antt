-- What follows from the definitions, for this crate and every layer above. To be cited first:
--   Num      num_same, num_other, num_lt, length_put: a number of any width, read after a write
--   Fold     folded_folded, length_folded, is_folded_folded, folded_is
--   Name     name_folded, name_length, name_after
--   Bytes    name_bytes
--   Under    under_refl, under_trans, under_antisym, under_folded
--   Rfc      under_is_rfc6265
--   Book     sound_parts, book_size
--   Order    letting_legal, options_legal, options_unlet, owner_range, owner_apart
--   Answer   suffix_number, suffix_empty, suffix_from, suffix_six, suffix_determined
--   Public   Public, by_given, by_folded: a suffix, whichever part of a host is public
--   Matched  book_public: the longest listed name is such a part
--   Suffix   suffix_facts, suffix_folded
--   Walk     name_walk: the code's walk over a name is the rule by labels
-- Bools and Lists are laws of the words in Base; Labels, Label and Stands are steps on the way.
pub mod Bools
pub mod Lists
pub mod Num
pub mod Fold
pub mod Labels
pub mod Name
pub mod Bytes
pub mod Label
pub mod Walk
pub mod Under
pub mod Rfc
pub mod Book
pub mod Order
pub mod Answer
pub mod Stands
pub mod Public
pub mod Matched
pub mod Suffix
