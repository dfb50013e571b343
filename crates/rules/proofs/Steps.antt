-- How each exit of a function of the kernel comes to what its contract says, a file for each of its files that needs one. For the
-- kernel's proofs; the layers above use Laws.
--   Put, Send     bytes and frames written into the room
--   Answer        the packed answer as its sum
--   Read          which event some bytes are
--   Allow         what a tab may ask for
--   Desk          a desk's fields as what the table shows; what the readers ask for
--   Decide        what a rule's function leaves: refused, idle, done
--   Number, Open  an open's number, and what it sends and leaves
--   Keys          select, close, pass, and which of them a key is
--   Tab, Deliver  what a tab asks for, and what is sent to one
--   Serve         which rule an event asks for
--   Step          decide and the two calls
pub mod Put
pub mod Send
pub mod Answer
pub mod Read
pub mod Allow
pub mod Desk
pub mod Decide
pub mod Number
pub mod Open
pub mod Keys
pub mod Tab
pub mod Deliver
pub mod Serve
pub mod Step
