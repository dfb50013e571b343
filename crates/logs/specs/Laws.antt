-- What follows from the definitions, for the proofs of this crate and every layer above. To be cited first:
--   Part     from_is: what stands from a place on
--   Decimal  value_decimal, decimal_leads: a number in decimal can be read back, and does not begin with a zero
--   Bound    lines_bound, length_actions: how long words and lines are at most
--   First    whole_has, oversized_has, first_inside: what a stream begins with, how long its first event is
--   Stream   whole_append, first_append, events_whole, events_last: more bytes behind it, its events one by one
--   Parted   parted, parted_once: how the document parts a stream, and that it comes to `events`
--   Laid     the events laid end to end again, how long they are, frames that are read as they were laid
--   Ready    ready_whole, ready_cut, ready_few: how many events are ready
--   Taken    ready_first, ready_all: those that are ready are the first of the stream's events, and when they are all
--   Reads    log_append, log_started: the log of one list of events after another, of a start
--   Serves   a reader in the order of the program comes to the end of every stream
--   Chunk    joined_then, chunk_empty, chunk_some: what reads brought, chunk by chunk
--   Books    unsound_log, no_book: a book of a length that no sound book has
--   Holding  answer_held, answer_lines_lem: what a step's answer gives, and the lines written from it
--   Give     gave_held, gave_room, gave_one: one event given to the kernel
--   Serving  many_none, many_more: events given one after another
-- The others are for this crate's functions: Digits and Hex hold what they write of a number and of bytes, Lines puts words and
-- lines together, Actions is the loop over the frames, Count the loop over what is ready.
pub mod Part
pub mod Digits
pub mod Decimal
pub mod Hex
pub mod Bound
pub mod Lines
pub mod Actions
pub mod First
pub mod Stream
pub mod Parted
pub mod Laid
pub mod Ready
pub mod Count
pub mod Taken
pub mod Reads
pub mod Serves
pub mod Chunk
pub mod Books
pub mod Holding
pub mod Give
pub mod Serving
