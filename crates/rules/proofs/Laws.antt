-- What follows from the definitions for one call, for this crate and every layer above. To be cited first:
--   Read     reading_in: the parts of an event that is read lie in its bytes
--   Memory   read_frame: what stands in memory for an event is the event; be_num, be_byte
--   Reads    frame_reads: what is read off the bytes of a frame
--   Fits     fits_read, read_fits: which frames are read as events
--   Open     open_openable: an open with number 0 is one that the table takes; acceptable_suffix
--   Frame    length_be, length_bytes, length_frames, length_part
--   Head     frame_front, frames_front: a frame that is written can be read, whatever follows it
--   Over     length_over, over_nothing, over_byte, over_over, over_front, over_past: bytes written over a room
--   Sent     sent_then, sent_one: frames sent one after another
--   Outcome  step_orderly: every outcome of a step is orderly
--   Answer   packed_number, packed_actions, packed_bytes; what a caller reads out of an answer and finds in the room
--   Start    start_starts, start_alone, start_reads: every outcome of a start
--   Allow    cookie_inside, socket_inside: what is allowed is a name under the suffix
--   Book     step_reads, any_book: what a step does not depend on
--   Alike    both, ask_alike, at_alike: two replies alike, by what they are made of
--   Response read_same: what a reply depends on
--   Apart    read_peers: what the reply to a tab depends on
--   Happens  what a step of a sound table comes to, a constructor for each outcome: match on it
--   Happened step_happens: every step of a sound table comes to one of them; payload
--   Actions  all_whence, all_apart: whence the actions of a step came, no two of one kind
--   Widths   step_widths: an action's fields fit the bytes that a frame has for them
--   Back     frames_read: frames laid end to end are read back as just these; frame_at_lem, frames_none, frames_more
--   Forward  start_does, open_frame, close_frame: when a call does what
--   ForwardTab  store_frame, retrieve_frame, url_frame, result_frame, document_frame: the like of a tab's events, and of those to it
-- Cases is how a choice is gone through. Line says what a reading is, a constructor for each line of the document's table of
-- events: match on it. Orderly is what holds of every outcome; Seat and Tab prove it rule by rule, as Acts does for Happens.
pub mod Cases
pub mod Frame
pub mod Head
pub mod Over
pub mod Wrote
pub mod Sent
pub mod Line
pub mod Read
pub mod Memory
pub mod Reads
pub mod Fits
pub mod Open
pub mod Orderly
pub mod Seat
pub mod Tab
pub mod Outcome
pub mod Answer
pub mod Start
pub mod Allow
pub mod Book
pub mod Alike
pub mod Response
pub mod Apart
pub mod Happens
pub mod Acts
pub mod Happened
pub mod Actions
pub mod Widths
pub mod Back
pub mod Forward
pub mod ForwardTab
